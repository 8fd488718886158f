-- What the status of a run says, in every program, and what is due (this project).
--
-- A program names files by its words, allows answers, and prints each answer with a status (`Programs`); `Causes` says by
-- cases why it comes to a verdict. `Prints`: these lines were written, and nothing else. `AreTold`: each file is told to hold
-- its bytes, which aren't too many, and taking it didn't fail. `IsTask`, `IsTaskFault`: what two texts spell.
use Rattle.std.specs.Prelude.{◌≡◌, ◌≢◌, ◌⊎◌, ℕ, List, ◌∷◌, Option, Some, None, Result, Ok, Err}
use Rattle.sexpr.specs.declared.fault.TextFault.{TextFault}
use Rattle.pddl_task.specs.declared.parts.TaskParts.{TaskParts}
use Rattle.patty_run.specs.declared.input.Input.{Input}
use Rattle.patty_run.specs.declared.stop.Stop.{Stop}
use Rattle.patty_run.specs.declared.stop.Stop.TheVariants as stop
use Rattle.patty_run.specs.Inputs.{InputFile}
use Rattle.patty_run.specs.Outside.{Outside, NoneFails, WriteFails, NoWriteFails}
use Rattle.patty_run.specs.Files.{AreTold, IsLongAt}
use Rattle.patty_run.specs.Tasks.{IsTask, IsTaskFault}
use Rattle.patty_run.specs.Printed.{Prints, PrintsFront}
use Rattle.patty_run.specs.Programs.{Program, lines_of, status_of}
use Rattle.patty_run.specs.Causes.{Causes, Counts}

module _ {A : Type 0} (program : Program A) (outside : Outside) where
  -- the files that the words name
  abbrev pub named : Option (List InputFile)
  named = program.files_of outside.words

  -- a verdict has its cause, and its lines are printed
  pub record Says (verdict : Result A Stop) : Type 0 where
    pub caused : Causes outside.files named program verdict
    pub printed : Prints outside.output (lines_of program verdict)

  -- a text is refused for its first fault, or a file for its length
  abbrev pub SaysRefused : Type 0
  SaysRefused = ((fault : TextFault) × Says (Err (stop.Fault fault))) ⊎ ((input : Input) × Says (Err (stop.Long input)))

  -- some verdict has its cause, and a front of its lines is printed
  pub record IsStarted : Type 0 where
    pub verdict : Result A Stop
    pub caused : Causes outside.files named program verdict
    pub counts : Counts outside.files verdict
    pub front : PrintsFront outside.output (lines_of program verdict)

  -- ---- what is due

  -- the words are right, the files that they name are told to hold these contents, and none of them failed
  pub record AreGiven (contents : List (List ℕ)) : Type 0 where
    pub names : List InputFile
    pub right : named ≡ Some names
    pub told : AreTold outside.files names contents

  -- two texts are given whose first fault this is
  pub record IsFaultGiven (fault : TextFault) : Type 0 where
    pub domain : List ℕ
    pub problem : List ℕ
    pub more : List (List ℕ)
    pub given : AreGiven (domain ∷ problem ∷ more)
    pub first : IsTaskFault domain problem fault

  -- the words are right, and the first file that isn't given is told to be too long
  pub record IsLongGiven (input : Input) : Type 0 where
    pub names : List InputFile
    pub right : named ≡ Some names
    pub long : IsLongAt outside.files names input

  -- two texts are given that have this task, and the further files hold these contents
  pub record IsTaskGiven (task : TaskParts) (more : List (List ℕ)) : Type 0 where
    pub domain : List ℕ
    pub problem : List ℕ
    pub given : AreGiven (domain ∷ problem ∷ more)
    pub is_task : IsTask domain problem task

  -- the words and the files call for no answer, for this reason
  abbrev pub CallsFor : Stop → Type 0
  CallsFor stop.Usage = named ≡ None
  CallsFor (stop.ReadFault input) = ⊥
  CallsFor (stop.Long input) = IsLongGiven input
  CallsFor (stop.Fault fault) = IsFaultGiven fault
  CallsFor stop.Memory = ⊥

  module _ (code : ℕ) where
    -- a verdict is printed with its status
    pub record Ends (verdict : Result A Stop) : Type 0 where
      pub status : code ≡ status_of program verdict
      pub printed : Prints outside.output (lines_of program verdict)

    -- a write failed, or memory ran out
    abbrev pub GivesOut : Type 0
    GivesOut = ((code ≡ 6) × WriteFails outside.output) ⊎ (code ≡ 7)

    -- an answer that this task and these further contents allow is printed with its status
    abbrev pub EndsWithAnswer : TaskParts → List (List ℕ) → Type 0
    EndsWithAnswer task more = (answer : A) × program.Allows task more answer × Ends (Ok answer)

    -- what the status says in every program
    pub record IsRun : Type 0 where
      -- 4: the words aren't right, and the usage line is printed
      pub usage : code ≡ 4 → Says (Err stop.Usage)
      -- 5: a file can't be read, and that is printed
      pub unread : code ≡ 5 → (input : Input) × Says (Err (stop.ReadFault input))
      -- 6: a write failed; any other: none did
      pub unwritten : code ≡ 6 → WriteFails outside.output
      pub written : code ≢ 6 → NoWriteFails outside.output
      -- any but 5, 6 and 7: no file failed to be taken
      pub read : code ≢ 5 → code ≢ 6 → code ≢ 7 → NoneFails outside.files
      -- any, also after a failed write and where memory ran out: what is printed is a front of what some verdict prints
      pub started : IsStarted
      -- what the words and the files call for comes, unless a write fails or memory runs out: a refusal ..
      pub refuses : (why : Stop) → CallsFor why → Ends (Err why) ⊎ GivesOut
      -- .. or some answer
      pub answers : (task : TaskParts) (more : List (List ℕ)) → IsTaskGiven task more → EndsWithAnswer task more ⊎ GivesOut
