-- What a search for a plan answers, and what it has written by then (this project).
use Rattle.std.specs.Prelude.{◌≡◌, ◌⊎◌, ℕ, false, List, length, Ok, Err, Result, ⊤}
use Rattle.lin.specs.Operations.{AllFit, IsFirstPassing}
use Rattle.patty_run.specs.Outside.{Output, WriteFails, NoWriteFails}
use Rattle.patty_run.specs.Printed.{Prints, PrintsFront}
use Rattle.pddl_task.specs.declared.parts.TaskParts.{TaskParts}
use Rattle.plan_form.specs.declared.plan.Part.{Part}
use Rattle.relaxed.specs.Answer.{EachFits}
use Rattle.plain_formula.specs.Plain.{is_plain_task}
use Rattle.ground_laws.specs.Result.{task_from}
use Rattle.ground_entry.specs.declared.failure.GroundFail.{GroundFail}
use Rattle.ground_entry.specs.declared.failure.GroundFail.TheVariants as refusal
use Rattle.ground.specs.Course.{ops_within}
use Rattle.ground.specs.Grounds.{HasTooMany}
use Rattle.planner_text.specs.declared.limits.Limits.{Limits}
use Rattle.planner_text.specs.Text.{Reason, refuted, found, unknown, Block, Text, layered, unlayered, IsText, IsTrueText}
use Rattle.planner_text.specs.Lines.{text_lines}
use Rattle.search.specs.declared.found.Found.{Found}
use Rattle.search.specs.declared.found.Found.TheVariants.{Plan, NoPlan, Unknown}
use Rattle.search.specs.declared.found.SearchFail.{SearchFail}
use Rattle.search.specs.declared.found.SearchFail.TheVariants.{Ground, NotBuilt, Sink, Memory}

-- ---- what isn't planned for yet: an action of the ground task, or its goal, has numbers in it
abbrev pub IsNotBuilt : TaskParts → Type 0
IsNotBuilt task = is_plain_task (task_from task) ≡ false

-- ---- what is found is how a text ends: the number of its last block, and how many places the pattern has

abbrev pub EndsWith : ℕ → ℕ → Block → Found → Type 0
EndsWith n places last (Plan m plan size) = (last.end ≡ found plan) × (m ≡ n) × (size ≡ places)
EndsWith n places last (NoPlan size) = (last.end ≡ refuted) × (size ≡ places)
EndsWith n places last (Unknown m size) = ((reason : Reason) × (last.end ≡ unknown reason)) × (m ≡ n) × (size ≡ places)

-- where there is no pattern, both are 0
abbrev pub IsOpenAtStart : Found → Type 0
IsOpenAtStart (Plan m plan size) = ⊥
IsOpenAtStart (NoPlan size) = ⊥
IsOpenAtStart (Unknown m size) = (m ≡ 0) × (size ≡ 0)

abbrev pub TextEndsWith : Text → Found → Type 0
TextEndsWith (layered places before last) f = EndsWith (length before) (length places) last f
TextEndsWith (unlayered w) f = IsOpenAtStart f

-- where there is a pattern, no operation of taking a range passes 128 bits
abbrev pub RangesFit : TaskParts → Text → Type 0
RangesFit task (layered places before last) = EachFits (task_from task)
RangesFit task (unlayered w) = ⊤

-- ---- the answer

-- a true text of the task is printed, and no operation of grounding passes 128 bits
pub record IsFound (output : Output) (task : TaskParts) (limits : Limits) (f : Found) : Type 0 where
  pub fit : AllFit (ops_within task 1000000)
  pub text : Text
  pub is_text : IsTrueText task limits text
  pub ranges : RangesFit task text
  pub ends : TextEndsWith text f
  pub printed : Prints output (text_lines task text)
  pub no_fault : NoWriteFails output

-- nothing is written yet, and no write failed
pub record IsSilent (output : Output) : Type 0 where
  pub same : output.written ≡ output.written_before
  pub no_fault : NoWriteFails output

-- a front of a text of the task is printed
pub record IsStarted (output : Output) (task : TaskParts) (limits : Limits) : Type 0 where
  pub fit : AllFit (ops_within task 1000000)
  pub text : Text
  pub is_text : IsText task limits text
  pub front : PrintsFront output (text_lines task text)

-- grounding refuses the task: too many instances are kept, or an operation passes 128 bits
abbrev pub RefusesGround : TaskParts → GroundFail → Type 0
RefusesGround task refusal.Many = HasTooMany task 1000000
RefusesGround task (refusal.CoefWide w) = IsFirstPassing w (ops_within task 1000000)
RefusesGround task refusal.Memory = ⊥

abbrev pub SearchFails : Output → TaskParts → Limits → SearchFail → Type 0
SearchFails output task limits (Ground fail) = RefusesGround task fail × IsSilent output
SearchFails output task limits NotBuilt = IsNotBuilt task × IsSilent output
SearchFails output task limits Sink = IsStarted output task limits × WriteFails output
SearchFails output task limits Memory = IsSilent output ⊎ (IsStarted output task limits × NoWriteFails output)

abbrev pub Searches : Output → TaskParts → Limits → Result Found SearchFail → Type 0
Searches output task limits (Ok f) = IsFound output task limits f
Searches output task limits (Err fail) = SearchFails output task limits fail
