-- The text that the planner prints for a task (this project): the task's pattern, and a block for each number of copies of it, of
-- which all but the last are refuted by their logs. Where taking a range passes 128 bits there is no pattern, and one line says so.
use Rattle.std.specs.Prelude.{◌≡◌, ℕ, suc, ◌<◌, ◌≤◌, List, [], ◌∷◌, length, Option, Some, ⊤}
use Rattle.frac128.specs.Operations.{Passes}
use Rattle.frac128.specs.declared.operations.Wide.{Wide}
use Rattle.pddl_task.specs.declared.parts.TaskParts.{TaskParts}
use Rattle.plan_step.specs.Meaning.{IsValidPlan}
use Rattle.plan_form.specs.declared.plan.Part.{Part}
use Rattle.plan_form.specs.Printed.{written_out}
use Rattle.task_core.specs.Words.{IsWord}
use Rattle.task_core.specs.Plan.{rolls}
use Rattle.ground_walk.specs.Walk.{kept_instances}
use Rattle.ground_laws.specs.Result.{task_from}
use Rattle.ground_plans.specs.Plans.{instances_at}
use Rattle.relaxed.specs.declared.failure.RangeWide.{RangeWide}
use Rattle.relaxed.specs.declared.failure.LayerFail.TheVariants as layers
use Rattle.relaxed.specs.Answer.{IsPassing}
use Rattle.pattern.specs.Pattern.{IsPattern}
use Rattle.formula.specs.Contents.{Contents, IsFormula}
use Rattle.encode_laws.specs.Encoding.{formula_of}
use Rattle.encode_laws.specs.Refusals.{operations_of, IsNamedPassing}
use Rattle.encode.specs.declared.failure.AtomWide.{AtomWide}
use Rattle.farkas_law.specs.Lemma.{IsShown}
use Rattle.theory_law.specs.declared.log.LogStep.{LogStep}
use Rattle.theory_law.specs.declared.trace.Coefs.{Coefs}
use Rattle.theory_law.specs.declared.trace.Trace.{Trace}
use Rattle.theory_law.specs.declared.trace.Site.{Site}
use Rattle.theory_law.specs.declared.trace.Site.TheVariants as site
use Rattle.theory_law.specs.Log.{IsSoundLog, after_log, HasEmpty}
use Rattle.theory_law.specs.Licence.{IsLicensedLog}
use Rattle.planner_text.specs.declared.limits.Limits.{Limits}

-- ---- the values of a text

abbrev pub Log : Type 0
Log = List (LogStep Coefs)

-- why a block is left open: its steps are spent, a check of the theory is stuck, or an operation of making its formula passes
pub data Reason : Type 0 where
  steps_spent : Reason
  stuck : Trace → Reason
  wide_atom : AtomWide → Reason

pub data End : Type 0 where
  refuted : End
  found : List Part → End
  unknown : Reason → End

pub record Block : Type 0 where
  pub log : Log
  pub end : End

-- the places of the pattern, the logs of the refuted blocks from 0 on, and the last block; or a range that passes
pub data Text : Type 0 where
  layered : List ℕ → List Log → Block → Text
  unlayered : RangeWide → Text

-- ---- what a text says

-- the formula of n copies of the pattern with these places
abbrev pub formula_for : TaskParts → List ℕ → ℕ → Contents
formula_for task places n = formula_of (task_from task) places n

-- a plan that is a word of n copies of the pattern, and is valid
pub record IsPlanBy (task : TaskParts) (places : List ℕ) (n : ℕ) (plan : List Part) : Type 0 where
  pub word : List ℕ
  pub is_word : IsWord (rolls (task_from task)) places n word
  pub spelled : written_out plan ≡ instances_at task word
  pub valid : IsValidPlan task (written_out plan)

-- the last line of a block: the empty clause stands behind its log, or there is such a plan; a reason is judged below
abbrev pub EndHolds : TaskParts → List ℕ → ℕ → Log → End → Type 0
EndHolds task places n log refuted = IsFormula (formula_for task places n) × HasEmpty (after_log (formula_for task places n) log)
EndHolds task places n log (found plan) = IsPlanBy task places n plan
EndHolds task places n log (unknown reason) = ⊤

-- block n: a sound log over the formula of n copies, of at most so many steps, and its end
pub record IsBlock (task : TaskParts) (limits : Limits) (places : List ℕ) (n : ℕ) (b : Block) : Type 0 where
  pub sound : IsSoundLog IsShown (formula_for task places n) b.log
  pub few : length b.log ≤ limits.steps
  pub ends : EndHolds task places n b.log b.end

abbrev pub refuted_by : Log → Block
refuted_by log = record { log = log; end = refuted }

-- the blocks from n on are refuted by these logs
abbrev pub AreRefuted : TaskParts → Limits → List ℕ → ℕ → List Log → Type 0
AreRefuted task limits places n [] = ⊤
AreRefuted task limits places n (log ∷ logs) = IsBlock task limits places n (refuted_by log) × AreRefuted task limits places (suc n) logs

-- the last block is refuted only where it is that of the greatest number of copies
pub record IsLayered (task : TaskParts) (limits : Limits) (places : List ℕ) (before : List Log) (last : Block) : Type 0 where
  pub pattern : IsPattern (task_from task) places
  pub refuted_before : AreRefuted task limits places 0 before
  pub last_is : IsBlock task limits places (length before) last
  pub within : length before ≤ limits.max_n
  pub goes_on : last.end ≡ refuted → length before ≡ limits.max_n

abbrev pub TextHolds : TaskParts → Limits → Text → Type 0
TextHolds task limits (layered places before last) = IsLayered task limits places before last
TextHolds task limits (unlayered w) = IsPassing (task_from task) (layers.RangeWide w)

-- a text of the task: at most 1,000,000 instances are kept
pub record IsText (task : TaskParts) (limits : Limits) (t : Text) : Type 0 where
  pub few : length (kept_instances task) ≤ 1000000
  pub holds : TextHolds task limits t

-- ---- true texts: no step of a log is taken for free, and each reason is one

abbrev pub PassesBits : Option Wide → Type 0
PassesBits w = (o : Wide) × (w ≡ Some o) × Passes o.op o.x o.y

-- the printed pivots are as many as a check may make, or the printed operation passes 128 bits
abbrev pub StopsAt : Limits → Site → Trace → Type 0
StopsAt limits site.Pivots t = length t.pivots ≡ limits.pivots
StopsAt limits site.Pivot t = PassesBits t.wide
StopsAt limits site.Value t = PassesBits t.wide
StopsAt limits site.Point t = PassesBits t.wide
StopsAt limits site.Farkas t = PassesBits t.wide

abbrev pub IsSpent : TaskParts → Limits → List ℕ → ℕ → Log → Reason → Type 0
IsSpent task limits places n log steps_spent = (length log ≡ limits.steps) × (HasEmpty (after_log (formula_for task places n) log) → ⊥)
IsSpent task limits places n log (stuck t) = StopsAt limits t.site t
IsSpent task limits places n log (wide_atom w) = (log ≡ []) × IsNamedPassing (operations_of (task_from task) places n) w.row w.wide

abbrev pub EndIsTrue : TaskParts → Limits → List ℕ → ℕ → Log → End → Type 0
EndIsTrue task limits places n log refuted = ⊤
EndIsTrue task limits places n log (found plan) = ⊤
EndIsTrue task limits places n log (unknown reason) = IsSpent task limits places n log reason

pub record IsTrueBlock (task : TaskParts) (limits : Limits) (places : List ℕ) (n : ℕ) (b : Block) : Type 0 where
  pub licensed : IsLicensedLog (formula_for task places n) b.log
  pub spent : EndIsTrue task limits places n b.log b.end

abbrev pub AreLicensed : TaskParts → List ℕ → ℕ → List Log → Type 0
AreLicensed task places n [] = ⊤
AreLicensed task places n (log ∷ logs) = IsLicensedLog (formula_for task places n) log × AreLicensed task places (suc n) logs

abbrev pub SaysTruly : TaskParts → Limits → Text → Type 0
SaysTruly task limits (layered places before last) = AreLicensed task places 0 before × IsTrueBlock task limits places (length before) last
SaysTruly task limits (unlayered w) = ⊤

pub record IsTrueText (task : TaskParts) (limits : Limits) (t : Text) : Type 0 where
  pub text : IsText task limits t
  pub true_so : SaysTruly task limits t
