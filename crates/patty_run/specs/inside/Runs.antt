-- A run in front of its laws: some verdict has its cause and is printed with its status, or a front of it.
use Rattle.std.specs.Prelude.{◌≡◌, ◌⊎◌, ℕ, List, Result, Ok, Err}
use Rattle.patty_run.specs.declared.stop.Stop.{Stop}
use Rattle.patty_run.specs.Outside.{Output, Outside, WriteFails, NoWriteFails}
use Rattle.patty_run.specs.Printed.{Prints, PrintsFront}
use Rattle.patty_run.specs.Tasks.{IsTask, IsNoTask}
use Rattle.patty_run.specs.Programs.{Program, lines_of, status_of}
use Rattle.patty_run.specs.Causes.{Causes, Counts}
use Rattle.pddl_task.specs.declared.parts.TaskParts.{TaskParts}

-- these lines are written, with this status and no failure, or a front of them: then the status is 6 where a write failed, or
-- 7 for want of memory
abbrev pub PrintsAs : Output → List (List ℕ) → ℕ → ℕ → Type 0
PrintsAs output lines status code =
    ((code ≡ status) × Prints output lines × NoWriteFails output)
    ⊎ (PrintsFront output lines × (((code ≡ 6) × WriteFails output) ⊎ ((code ≡ 7) × NoWriteFails output)))

module _ {A : Type 0} (program : Program A) where
  pub record Runs (outside : Outside) (code : ℕ) : Type 0 where
    pub verdict : Result A Stop
    pub caused : Causes outside.files (program.files_of outside.words) program verdict
    pub counts : Counts outside.files verdict
    pub printed : PrintsAs outside.output (lines_of program verdict) (status_of program verdict) code

  -- two texts have a task, which with the further contents allows this answer
  pub record TextsAllow (domain problem : List ℕ) (more : List (List ℕ)) (answer : A) : Type 0 where
    pub task : TaskParts
    pub is_task : IsTask domain problem task
    pub allowed : program.Allows task more answer

  -- what the contents of all files come to
  abbrev pub TextsDecide : List ℕ → List ℕ → List (List ℕ) → Result A Stop → Type 0
  TextsDecide domain problem more (Ok answer) = TextsAllow domain problem more answer
  TextsDecide domain problem more (Err why) = IsNoTask domain problem why
