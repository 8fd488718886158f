-- What the validator answers, and what its runs say: the plan's text has a first fault, or the plan that it spells is judged.
use Rattle.std.specs.Prelude.{◌≡◌, ◌⊎◌, ℕ, ◌<◌, List, [], ◌∷◌, codes, Ok}
use Rattle.pddl_form.specs.Judged.{good}
use Rattle.pddl_task.specs.declared.parts.TaskParts.{TaskParts}
use Rattle.plan_form.specs.declared.plan.Part.{Part}
use Rattle.plan_text.specs.PlanText.{names_of, plan_judged, IsFirstFault}
use Rattle.plan_form.specs.Printed.{flat_length}
use Rattle.plan_judge.specs.declared.outcome.Outcome.{Outcome}
use Rattle.plan_judge.specs.declared.outcome.Outcome.TheVariants as outcome
use Rattle.plan_judge.specs.Course.{ComesTo}
use Rattle.plan_judge.specs.Written.{IsValid}
use Rattle.plan_judge.specs.Laws as outcomes
use Rattle.patty_run.specs.Outside.{Outside, WriteFails}
use Rattle.patty_run.specs.Causes.{Hold}
use Rattle.patty_run.specs.Tasks.{IsTask}
use Rattle.patty_run.specs.Printed.{line, Prints}
use Rattle.patty_run.specs.Programs.{Program}
use Rattle.patty_run.specs.Statuses.{Says, SaysRefused, IsTaskGiven, IsRun}
use Rattle.validator.specs.declared.answer.Answer.{Answer}
use Rattle.validator.specs.declared.answer.Answer.TheVariants as answer
use Rattle.validator.specs.Words.{files_of}
use Rattle.validator.specs.Lines.{lines, status}

-- the text spells a plan, which has this outcome and so many steps
pub record IsJudged (task : TaskParts) (text : List ℕ) (o : Outcome) (steps : ℕ) : Type 0 where
  pub plan : List Part
  pub spelled : plan_judged (names_of task) text ≡ good plan
  -- how far the plan comes: the run in front of its first failure, or of all its parts
  pub comes : ComesTo task plan o
  -- what the outcome says of the plan written out, in unlimited fractions: it is valid, or it isn't
  pub means : outcomes.Means task plan o
  pub steps_is : steps ≡ flat_length plan

abbrev pub Judges : TaskParts → List ℕ → Answer → Type 0
Judges task text (answer.PlanFault kind place) = IsFirstFault (names_of task) text kind place
Judges task text (answer.Judged o steps) = IsJudged task text o steps

-- the answers that a task and the plan's text allow
abbrev pub Allows : TaskParts → List (List ℕ) → Answer → Type 0
Allows task [] a = ⊥
Allows task (text ∷ more) a = Judges task text a

abbrev pub validator : Program Answer
validator = record {
  usage = line (codes "usage: patty_val DOMAIN PROBLEM PLAN");
  files_of = files_of;
  Allows = Allows;
  lines = lines;
  status = status;
}

-- ---- what a run says

-- the outcome says that the plan is valid, that it isn't, or that an operation passes 128 bits
abbrev pub IsAccepted : TaskParts → List Part → Outcome → Type 0
IsAccepted task plan o = (o ≡ outcome.Valid) × IsValid task plan

abbrev pub IsRejected : TaskParts → List Part → Outcome → Type 0
IsRejected task plan o = outcomes.SaysInvalid o × (IsValid task plan → ⊥)

abbrev pub IsUndecided : TaskParts → List Part → Outcome → Type 0
IsUndecided task plan o = outcomes.PassesBits o

module _ (outside : Outside) where
  -- The words are right, and the files hold two texts that have a task and a third that spells a plan. That plan comes to an
  -- outcome of which this is true, and its line is printed.
  pub record SaysOutcome (IsSo : TaskParts → List Part → Outcome → Type 0) : Type 0 where
    pub domain : List ℕ
    pub problem : List ℕ
    pub text : List ℕ
    pub more : List (List ℕ)
    pub held : Hold outside.files (files_of outside.words) (domain ∷ problem ∷ text ∷ more)
    pub task : TaskParts
    pub is_task : IsTask domain problem task
    pub plan : List Part
    pub spelled : plan_judged (names_of task) text ≡ good plan
    pub verdict : Outcome
    pub comes : ComesTo task plan verdict
    pub is_so : IsSo task plan verdict
    pub printed : Prints outside.output (lines (answer.Judged verdict (flat_length plan)))

  -- the plan is valid, and that is printed with the number of its steps
  abbrev pub SaysValid : Type 0
  SaysValid = SaysOutcome IsAccepted

  -- the plan isn't valid, and what fails first is printed
  abbrev pub SaysInvalid : Type 0
  SaysInvalid = SaysOutcome IsRejected

  -- the operation that is printed passes 128 bits
  abbrev pub SaysWide : Type 0
  SaysWide = SaysOutcome IsUndecided

  -- the plan's text is refused for its first fault, and that is printed
  abbrev pub RefusesPlan : Type 0
  RefusesPlan = (kind : ℕ) × (place : ℕ) × Says validator outside (Ok (answer.PlanFault kind place))

  -- the words are right, two texts are given that have a task, and a third that spells a plan; no file and no write fails
  pub record IsFaultless : Type 0 where
    pub task : TaskParts
    pub text : List ℕ
    pub given : IsTaskGiven validator outside task (text ∷ [])
    pub plan : List Part
    pub spelled : plan_judged (names_of task) text ≡ good plan
    pub no_fault : WriteFails outside.output → ⊥

-- what the status of a run says
pub record IsValRun (outside : Outside) (code : ℕ) : Type 0 where
  pub valid : code ≡ 0 → SaysValid outside
  pub invalid : code ≡ 1 → SaysInvalid outside
  pub wide : code ≡ 2 → SaysWide outside
  -- a text, the plan or the length of a file is refused
  pub refused : code ≡ 3 → SaysRefused validator outside ⊎ RefusesPlan outside
  -- 8 and more
  pub never : 7 < code → ⊥
  -- what isn't at fault is judged, unless memory runs out
  pub complete : IsFaultless outside → (code < 3) ⊎ (code ≡ 7)
  -- 4 to 7, and whatever the status
  pub run : IsRun validator outside code
