-- Why a run of a program comes to its verdict (this project).
use Rattle.std.specs.Prelude.{◌≡◌, ℕ, List, ◌∷◌, Option, Some, None, Result, Ok, Err}
use Rattle.sexpr.specs.declared.fault.TextFault.{TextFault}
use Rattle.pddl_task.specs.declared.parts.TaskParts.{TaskParts}
use Rattle.patty_run.specs.declared.input.Input.{Input}
use Rattle.patty_run.specs.declared.stop.Stop.{Stop}
use Rattle.patty_run.specs.declared.stop.Stop.TheVariants as stop
use Rattle.patty_run.specs.Inputs.{InputFile}
use Rattle.patty_run.specs.Outside.{Files, NoneFails}
use Rattle.patty_run.specs.Files.{AreHeld, IsLong, FailsAt}
use Rattle.patty_run.specs.Tasks.{IsTask, IsTaskFault}
use Rattle.patty_run.specs.Programs.{Program}

-- the words name these files, or, at None, aren't right
module _ (files : Files) (named : Option (List InputFile)) where
  -- the words are right, and the files that they name hold these contents
  pub record Hold (contents : List (List ℕ)) : Type 0 where
    pub names : List InputFile
    pub right : named ≡ Some names
    pub held : AreHeld files.content names contents

  -- the files hold two texts, whose first fault this is
  pub record HasFault (fault : TextFault) : Type 0 where
    pub domain : List ℕ
    pub problem : List ℕ
    pub more : List (List ℕ)
    pub held : Hold (domain ∷ problem ∷ more)
    pub first : IsTaskFault domain problem fault

  -- the words are right, and the first file that isn't held is too long
  pub record HasLong (input : Input) : Type 0 where
    pub names : List InputFile
    pub right : named ≡ Some names
    pub long : IsLong files names input

  -- the words are right, and the first file that isn't held can't be read
  pub record HasUnread (input : Input) : Type 0 where
    pub names : List InputFile
    pub right : named ≡ Some names
    pub fails : FailsAt files names input

  -- why there is no answer; want of memory is free
  abbrev pub StopCauses : Stop → Type 0
  StopCauses stop.Usage = named ≡ None
  StopCauses (stop.ReadFault input) = HasUnread input
  StopCauses (stop.Long input) = HasLong input
  StopCauses (stop.Fault fault) = HasFault fault
  StopCauses stop.Memory = Unit {0}

  module _ {A : Type 0} (program : Program A) where
    -- the files hold two texts that have a task; it and the further contents allow this answer
    pub record HasAnswer (answer : A) : Type 0 where
      pub domain : List ℕ
      pub problem : List ℕ
      pub more : List (List ℕ)
      pub held : Hold (domain ∷ problem ∷ more)
      pub task : TaskParts
      pub is_task : IsTask domain problem task
      pub allowed : program.Allows task more answer

    abbrev pub Causes : Result A Stop → Type 0
    Causes (Ok answer) = HasAnswer answer
    Causes (Err why) = StopCauses why

-- no file failed to be taken, unless the verdict says that one can't be read
abbrev pub StopCounts : Files → Stop → Type 0
StopCounts files stop.Usage = NoneFails files
StopCounts files (stop.ReadFault input) = Unit {0}
StopCounts files (stop.Long input) = NoneFails files
StopCounts files (stop.Fault fault) = NoneFails files
StopCounts files stop.Memory = NoneFails files

abbrev pub Counts : {A : Type 0} → Files → Result A Stop → Type 0
Counts files (Ok answer) = NoneFails files
Counts files (Err why) = StopCounts files why
