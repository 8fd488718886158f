-- What is printed for a task, in front of the laws of runs.
use Rattle.std.specs.Prelude.{◌≡◌, ℕ, ◌<◌, List, [], Option, Result, Ok, Err, ⊤}
use Rattle.pddl_task.specs.declared.parts.TaskParts.{TaskParts}
use Rattle.patty_run.specs.declared.stop.Stop.{Stop}
use Rattle.patty_run.specs.declared.stop.Stop.TheVariants as stop
use Rattle.patty_run.specs.Inputs.{InputFile}
use Rattle.patty_run.specs.Outside.{Files, Output}
use Rattle.patty_run.specs.Causes.{Causes, Counts}
use Rattle.patty_run.specs.Programs.{Program, lines_of, status_of}
use Rattle.patty_run.specs.inside.Runs.{PrintsAs}
use Rattle.search.specs.declared.found.SearchFail.{SearchFail}
use Rattle.search.specs.declared.found.SearchFail.TheVariants as fail
use Rattle.search.specs.declared.found.Found.{Found}
use Rattle.search.specs.declared.found.Found.TheVariants as come
use Rattle.planner_text.specs.declared.limits.Limits.{Limits}
use Rattle.planner_text.specs.Text.{IsTrueText}
use Rattle.planner.specs.Planner.{Course, printed, refused, not_built, Answer, Allows, planner, refusal_lines, not_built_lines}
use Rattle.planner.specs.Words.{files_of}

-- the task, where it is read: a program whose answers are tasks
abbrev pub reader : Program TaskParts
reader = record {
  usage = [];
  files_of = files_of;
  Allows = λ task more t. t ≡ task;
  lines = λ t. [];
  status = λ t. 0;
}

abbrev pub AllowsVerdict : Limits → TaskParts → Result Answer Stop → Type 0
AllowsVerdict limits task (Ok a) = Allows limits task a
AllowsVerdict limits task (Err stop.Usage) = ⊥
AllowsVerdict limits task (Err (stop.ReadFault input)) = ⊥
AllowsVerdict limits task (Err (stop.Long input)) = ⊥
AllowsVerdict limits task (Err (stop.Fault fault)) = ⊥
AllowsVerdict limits task (Err stop.Memory) = ⊤

-- a text is a true one
abbrev pub IsTruly : Limits → TaskParts → Course → Type 0
IsTruly limits task (printed t) = IsTrueText task limits t
IsTruly limits task (refused fail) = ⊤
IsTruly limits task not_built = ⊤

abbrev pub VerdictIsTrue : Limits → Result Answer Stop → Type 0
VerdictIsTrue limits (Ok a) = IsTruly limits a.task a.course
VerdictIsTrue limits (Err why) = ⊤

-- an answer that the task allows, or want of memory, is printed with its status, or a front of it; what is printed whole is true
pub record IsAnswered (output : Output) (limits : Limits) (task : TaskParts) (code : ℕ) : Type 0 where
  pub verdict : Result Answer Stop
  pub allowed : AllowsVerdict limits task verdict
  pub truly : code < 6 → VerdictIsTrue limits verdict
  pub printed_is : PrintsAs output (lines_of (planner limits) verdict) (status_of (planner limits) verdict) code

abbrev pub found_status : Found → ℕ
found_status (come.Plan n plan places) = 0
found_status (come.NoPlan places) = 1
found_status (come.Unknown n places) = 2

-- what is done where a search fails
abbrev pub EndsFailed : Output → SearchFail → ℕ → Type 0
EndsFailed output (fail.Ground why) code = PrintsAs output (refusal_lines why) 3 code
EndsFailed output fail.NotBuilt code = PrintsAs output not_built_lines 3 code
EndsFailed output fail.Sink code = (code ≡ 6) × (output.written ≡ output.written_before) × (output.failed ≡ output.failed_before)
EndsFailed output fail.Memory code = (code ≡ 7) × (output.written ≡ output.written_before) × (output.failed ≡ output.failed_before)

-- a run whose words name these files, or aren't right
pub record RunsOn (files : Files) (output : Output) (named : Option (List InputFile)) (limits : Limits) (code : ℕ) : Type 0 where
  pub verdict : Result Answer Stop
  pub caused : Causes files named (planner limits) verdict
  pub counts : Counts files verdict
  pub truly : code < 6 → VerdictIsTrue limits verdict
  pub printed_is : PrintsAs output (lines_of (planner limits) verdict) (status_of (planner limits) verdict) code
