-- A program (this project): what it takes, what it may answer, and how it prints an answer. Its verdict is an answer, or why
-- there is none.
use Rattle.std.specs.Prelude.{ℕ, List, Option, String, Result, Ok, Err}
use Rattle.std.specs.declared.alloc.Global.{Global}
use Rattle.pddl_task.specs.declared.parts.TaskParts.{TaskParts}
use Rattle.patty_run.specs.declared.stop.Stop.{Stop}
use Rattle.patty_run.specs.Inputs.{InputFile}
use Rattle.patty_run.specs.Printed.{stop_lines, stop_status}

-- a program whose answers are these
pub record Program (A : Type 0) : Type 1 where
  -- its usage line
  pub usage : List ℕ
  -- the files that its words name, where the words are right: those of a domain, of a problem and perhaps more
  pub files_of : List (String Global) → Option (List InputFile)
  -- the answers that a task and the contents of the further files allow, of which there may be several
  pub Allows : TaskParts → List (List ℕ) → A → Type 0
  pub lines : A → List (List ℕ)
  pub status : A → ℕ

module _ {A : Type 0} (program : Program A) where
  abbrev pub lines_of : Result A Stop → List (List ℕ)
  lines_of (Ok answer) = program.lines answer
  lines_of (Err why) = stop_lines program.usage why

  abbrev pub status_of : Result A Stop → ℕ
  status_of (Ok answer) = program.status answer
  status_of (Err why) = stop_status why
