-- What the planner answers, and what its runs say.
use Rattle.std.specs.Prelude.{◌≡◌, ◌⊎◌, ℕ, ◌<◌, ◌≤◌, true, false, List, [], ◌∷◌, ◌++◌, length, Ok, codes, ⊤}
use Rattle.lin.specs.Operations.{AllFit}
use Rattle.operation_text.specs.Operation.{operation_text}
use Rattle.pddl_task.specs.declared.instance.Instance.{Instance}
use Rattle.pddl_task.specs.declared.parts.TaskParts.{TaskParts}
use Rattle.pddl_task.specs.Linear.{IsLinear}
use Rattle.plan_step.specs.Meaning.{IsValidPlan}
use Rattle.plan_form.specs.declared.plan.Part.{Part}
use Rattle.plan_form.specs.Printed.{written_out}
use Rattle.patty_run.specs.Outside.{Outside, WriteFails}
use Rattle.patty_run.specs.Printed.{line, Prints}
use Rattle.patty_run.specs.Causes.{Hold}
use Rattle.patty_run.specs.Tasks.{IsTask}
use Rattle.patty_run.specs.Programs.{Program}
use Rattle.patty_run.specs.Statuses.{SaysRefused, IsTaskGiven, IsRun}
use Rattle.ground_entry.specs.declared.failure.GroundFail.{GroundFail}
use Rattle.ground_entry.specs.declared.failure.GroundFail.TheVariants as refusal
use Rattle.ground.specs.Course.{ops_within}
use Rattle.ground_walk.specs.Walk.{kept_instances}
use Rattle.ground_plans.specs.Plans.{ReachesGoal}
use Rattle.planner_text.specs.declared.limits.Limits.{Limits}
use Rattle.planner_text.specs.Text.{Log, End, refuted, found, unknown, Reason, Block, Text, layered, unlayered, IsText, IsTrueText}
use Rattle.planner_text.specs.Lines.{text_lines}
use Rattle.search.specs.Searching.{RefusesGround, IsNotBuilt}
use Rattle.planner.specs.Words.{files_of, limits_in}

-- ---- answers

-- a text is printed, grounding refuses the task, or the task has numbers, which aren't planned for yet
pub data Course : Type 0 where
  printed : Text → Course
  refused : GroundFail → Course
  not_built : Course

pub record Answer : Type 0 where
  pub task : TaskParts
  pub course : Course

-- the text is one of the task, and no operation of grounding passes 128 bits; or why there is none. What stops in the middle prints
-- a front of a text, whose end isn't known to be true
abbrev pub Takes : Limits → TaskParts → Course → Type 0
Takes limits task (printed t) = IsText task limits t × AllFit (ops_within task 1000000)
Takes limits task (refused fail) = RefusesGround task fail
Takes limits task not_built = IsNotBuilt task

-- the answers that a task allows
pub record Allows (limits : Limits) (task : TaskParts) (a : Answer) : Type 0 where
  pub same_task : a.task ≡ task
  -- conditions and effects are linear, as in every task
  pub linear : IsLinear task
  pub takes : Takes limits task a.course

abbrev pub refusal_lines : GroundFail → List (List ℕ)
refusal_lines refusal.Many = line (codes "fault task 14") ∷ []
refusal_lines (refusal.CoefWide w) = line (codes "fault task 16 " ++ operation_text w) ∷ []
refusal_lines refusal.Memory = []

abbrev pub not_built_lines : List (List ℕ)
not_built_lines = line (codes "fault problem 23 0") ∷ []

abbrev pub course_lines : TaskParts → Course → List (List ℕ)
course_lines task (printed t) = text_lines task t
course_lines task (refused fail) = refusal_lines fail
course_lines task not_built = not_built_lines

abbrev pub lines : Answer → List (List ℕ)
lines a = course_lines a.task a.course

abbrev pub end_status : End → ℕ
end_status refuted = 1
end_status (found plan) = 0
end_status (unknown reason) = 2

abbrev pub text_status : Text → ℕ
text_status (layered places before last) = end_status last.end
text_status (unlayered w) = 2

abbrev pub course_status : Course → ℕ
course_status (printed t) = text_status t
course_status (refused fail) = 3
course_status not_built = 3

abbrev pub status : Answer → ℕ
status a = course_status a.course

abbrev pub usage_line : List ℕ
usage_line = line (codes "usage: patty DOMAIN PROBLEM [--max-n N] [--steps B] [--pivots P] [--flat]")

abbrev pub planner : Limits → Program Answer
planner limits = record {
  usage = usage_line;
  files_of = files_of;
  Allows = λ task more a. Allows limits task a;
  lines = lines;
  status = status;
}

-- ---- what a run says

module _ (outside : Outside) where
  abbrev pub limits_here : Limits
  limits_here = limits_in outside.words

  abbrev pub program : Program Answer
  program = planner limits_here

  -- the words are right, and the files hold two texts that have this task
  pub record IsOfFiles (task : TaskParts) : Type 0 where
    pub domain : List ℕ
    pub problem : List ℕ
    pub more : List (List ℕ)
    pub held : Hold outside.files (files_of outside.words) (domain ∷ problem ∷ more)
    pub is_task : IsTask domain problem task

  -- a true text of such a task is printed
  pub record SaysText (t : Text) (task : TaskParts) : Type 0 where
    pub of_files : IsOfFiles task
    pub is_text : IsTrueText task limits_here t
    pub printed_is : Prints outside.output (text_lines task t)

  -- A plan is printed. It is valid, step by step, and a word of as many copies of the pattern as blocks are refuted before it; and
  -- no word of fewer copies is a valid plan.
  pub record SaysPlan : Type 0 where
    pub task : TaskParts
    pub places : List ℕ
    pub before : List Log
    pub last : Block
    pub plan : List Part
    pub says : SaysText (layered places before last) task
    pub ends : last.end ≡ found plan
    pub valid : IsValidPlan task (written_out plan)
    pub reached : ReachesGoal task places (length before)
    pub least : (n : ℕ) → n < length before → ReachesGoal task places n → ⊥

  -- That there is none is printed. No word of as many copies as the words allow is a valid plan, nor is any plan of so many steps.
  pub record SaysNone : Type 0 where
    pub task : TaskParts
    pub places : List ℕ
    pub before : List Log
    pub last : Block
    pub says : SaysText (layered places before last) task
    pub ends : last.end ≡ refuted
    pub none : (n : ℕ) → n ≤ limits_here.max_n → ReachesGoal task places n → ⊥
    pub no_plan : (plan : List Instance) → length plan ≤ limits_here.max_n → IsValidPlan task plan → ⊥

  abbrev pub IsOpen : Text → Type 0
  IsOpen (layered places before last) = (reason : Reason) × (last.end ≡ unknown reason)
  IsOpen (unlayered w) = ⊤

  -- That a block is left open is printed, or that there is no pattern; a true text has a true reason.
  pub record SaysUnknown : Type 0 where
    pub task : TaskParts
    pub text : Text
    pub says : SaysText text task
    pub is_open : IsOpen text

  -- Grounding refuses the task of the texts, or it has numbers, and that is printed.
  pub record SaysTaskRefused : Type 0 where
    pub task : TaskParts
    pub of_files : IsOfFiles task
    pub why : ((fail : GroundFail) × RefusesGround task fail × Prints outside.output (refusal_lines fail)) ⊎ (IsNotBuilt task × Prints outside.output not_built_lines)

  -- The words are right, and two texts are given that have a task; grounding doesn't refuse it, and it has no numbers. No file and no
  -- write fails.
  pub record IsFaultless : Type 0 where
    pub task : TaskParts
    pub given : IsTaskGiven program outside task []
    pub fit : AllFit (ops_within task 1000000)
    pub few : length (kept_instances task) ≤ 1000000
    pub plain : IsNotBuilt task → ⊥
    pub no_fault : WriteFails outside.output → ⊥

-- what the status of a run says
pub record IsPlanRun (outside : Outside) (code : ℕ) : Type 0 where
  pub plan : code ≡ 0 → SaysPlan outside
  pub none : code ≡ 1 → SaysNone outside
  pub unknown : code ≡ 2 → SaysUnknown outside
  -- a text, the length of a file or the task is refused
  pub refused : code ≡ 3 → SaysRefused (program outside) outside ⊎ SaysTaskRefused outside
  -- 8 and more
  pub never : 7 < code → ⊥
  -- what isn't at fault is answered, unless memory runs out
  pub complete : IsFaultless outside → (code < 3) ⊎ (code ≡ 7)
  -- 4 to 7, and whatever the status
  pub run : IsRun (program outside) outside code
