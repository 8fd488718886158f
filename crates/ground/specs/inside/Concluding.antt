-- The parts of the ground task, made of a walk that is through and the goal's draft.
use Rattle.std.specs.Prelude.{◌≡◌, ℕ, suc, Bool, true, false, List, [], ◌∷◌, ◌++◌, map, length, slice_get, Option, Some, None, unwrap_or}
use Rattle.rational.specs.Fraction.{Fraction}
use Rattle.task_core.specs.declared.action.GAction.{GAction}
use Rattle.task_core.specs.Task.{GroundParts}
use Rattle.plan_step.specs.State.{PlanState}
use Rattle.ground_numbers.specs.declared.named.Named.{Named}
use Rattle.ground_action.specs.Setting.{value_in}
use Rattle.ground_seen.specs.declared.tables.Tables.{Tables}
use Rattle.ground_draft.specs.declared.draft.Draft.{Draft}
use Rattle.ground_entry.specs.declared.walk.Walk.{Walk}

abbrev pub truth_of : PlanState → Named → Bool
truth_of s k = s.truth k.symbol k.args

-- ---- the atoms 'has a value'
-- from a number on one for each function without a value
abbrev pub marks_from : ℕ → List (Option Fraction) → List ℕ
marks_from p [] = []
marks_from p (None ∷ more) = p ∷ marks_from (suc p) more
marks_from p (Some x ∷ more) = p ∷ marks_from p more

-- each of them is false
abbrev pub falses_of : List (Option Fraction) → List Bool
falses_of [] = []
falses_of (None ∷ more) = false ∷ falses_of more
falses_of (Some x ∷ more) = falses_of more

-- of one function
abbrev pub false_of : Option Fraction → List Bool
false_of None = false ∷ []
false_of (Some x) = []

abbrev pub mark_at : List ℕ → ℕ → ℕ → ℕ
mark_at marks last f = unwrap_or (slice_get marks f) last

-- a function more is marked
pub record IsMarked (old_truths truths : List Bool) (old_marks marks : List ℕ) (value : Option Fraction) : Type 0 where
  pub truths_are : truths ≡ old_truths ++ false_of value
  pub marks_are : marks ≡ old_marks ++ length old_truths ∷ []

-- all are
pub record AreMarked (old truths : List Bool) (marks : List ℕ) (values : List (Option Fraction)) : Type 0 where
  pub truths_are : truths ≡ old ++ falses_of values
  pub marks_are : marks ≡ marks_from (length old) values

-- ---- drafts
abbrev pub finished_at : (ℕ → ℕ) → Draft → GAction
finished_at mark d = record {
  lits = d.action.lits ++ map (λ f. (mark f, true)) d.reads;
  cmps = d.action.cmps;
  adds = d.action.adds ++ map mark d.assigns;
  dels = d.action.dels;
  incs = d.action.incs;
  sets = d.action.sets;
}

-- ---- the whole
abbrev pub values_at : PlanState → Tables → List (Option Fraction)
values_at s t = map (value_in s) t.funcs

abbrev pub truths_at : PlanState → Tables → List Bool
truths_at s t = map (truth_of s) t.atoms ++ falses_of (values_at s t)

abbrev pub mark_in : PlanState → Tables → ℕ → ℕ
mark_in s t = mark_at (marks_from (length t.atoms) (values_at s t)) (length (truths_at s t))

abbrev pub parts_of : PlanState → Walk → Draft → GroundParts
parts_of s w goal = record {
  atoms = truths_at s w.tables;
  funcs = values_at s w.tables;
  actions = map (finished_at (mark_in s w.tables)) w.drafts;
  goal = finished_at (mark_in s w.tables) goal;
}

-- the start, with the atoms that say whether functions have values
pub record IsStartOf (s : PlanState) (t : Tables) (truths : List Bool) (values : List (Option Fraction)) (marks : List ℕ) : Type 0 where
  pub truths_are : truths ≡ truths_at s t
  pub values_are : values ≡ values_at s t
  pub marks_are : marks ≡ marks_from (length t.atoms) (values_at s t)
