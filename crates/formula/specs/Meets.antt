-- When a point meets a formula, and what testing it answers. A point gives each numeric variable a value and each Boolean a truth.
use Rattle.std.specs.Prelude.{◌≡◌, ◌<◌, ◌≤◌, ◌⊎◌, ◌↔◌, ℕ, Bool, true, false, not, List, length, slice_index_or, slice_get, Some, Any, Result, Ok, Err, IsTrue, if◌then◌else◌}
use Rattle.std.specs.List.{list_any, list_all}
use Rattle.rational.specs.Fraction.{Fraction}
use Rattle.rational.specs.Floor.{IsWhole}
use Rattle.frac128.specs.declared.operations.Wide.{Wide}
use Rattle.lin.specs.Linear.{point_of}
use Rattle.lin.specs.Operations.{AllFit, IsFirstPassing}
use Rattle.lin.specs.Made.{value_ops}
use Rattle.formula.specs.declared.atom.Constraint.{Constraint}
use Rattle.formula.specs.declared.atom.Lit.{Lit}
use Rattle.formula.specs.declared.point.Point.{Point}
use Rattle.formula.specs.Contents.{Contents}
use Rattle.formula.specs.Reading.{Holds, reading_where, atom_of}

-- a value for each variable and a truth for each Boolean
pub record IsPointOf (f : Contents) (p : Point) : Type 0 where
  pub values : length f.counts ≤ length p.values
  pub truth : length f.atoms ≤ length p.truth

-- ---- clauses
abbrev pub truth_at : List Bool → ℕ → Bool
truth_at truth b = slice_index_or truth b false

abbrev pub is_true : List Bool → Lit → Bool
is_true truth l = if l.pos then truth_at truth l.boolean else not (truth_at truth l.boolean)

-- each clause has a true literal
abbrev pub are_met : List Bool → List (List Lit) → Bool
are_met truth clauses = list_all (λ c. list_any (is_true truth) c) clauses

-- the clause has a true literal
abbrev pub HasTrue : List Bool → List Lit → Type 0
HasTrue truth c = Any (λ l. is_true truth l ≡ true) c

-- ---- atoms
-- what the Boolean says by its truth
abbrev pub constraint_at : Contents → Point → ℕ → Constraint
constraint_at f p b = reading_where f.counts (atom_of f b) (truth_at p.truth b)

pub record HoldsAt (f : Contents) (p : Point) (b : ℕ) : Type 0 where
  pub holds : Holds (point_of p.values) (constraint_at f p b)

-- no operation of its test passes
pub record FitsAt (f : Contents) (p : Point) (b : ℕ) : Type 0 where
  pub fits : AllFit (value_ops (point_of p.values) (constraint_at f p b).lin)

-- the point meets the formula: each clause has a true literal, and the reading of each true literal of an atom holds
pub record Meets (f : Contents) (p : Point) : Type 0 where
  pub clauses : are_met p.truth f.clauses ≡ true
  pub atoms : (b : ℕ) → b < length f.atoms → HoldsAt f p b

-- ---- whole counts
abbrev pub AreWhole : List Bool → List Fraction → Type 0
AreWhole counts values = (v : ℕ) → slice_get counts v ≡ Some true → IsWhole (point_of values v)

-- a point of the formula, with whole counts, that meets it
pub record IsSolution (f : Contents) (p : Point) : Type 0 where
  pub point : IsPointOf f p
  pub integral : AreWhole f.counts p.values
  pub meets : Meets f p

-- ---- what the test answers: the clauses in order, and then the atoms in rising Boolean
-- each clause is met, and the Booleans below b hold
pub record HoldsBelow (f : Contents) (p : Point) (b : ℕ) : Type 0 where
  pub clauses : are_met p.truth f.clauses ≡ true
  pub atoms : (k : ℕ) → k < b → HoldsAt f p k
  pub fit : (k : ℕ) → k < b → FitsAt f p k

-- b is the first Boolean that doesn't hold
pub record FailsFirst (f : Contents) (p : Point) (b : ℕ) : Type 0 where
  pub within : b < length f.atoms
  pub front : HoldsBelow f p b
  pub fit : FitsAt f p b
  pub fails : ¬ (HoldsAt f p b)

-- w is the first operation that passes, at the Boolean b
pub record PassesFirst (f : Contents) (p : Point) (w : Wide) (b : ℕ) : Type 0 where
  pub within : b < length f.atoms
  pub front : HoldsBelow f p b
  pub passes : IsFirstPassing w (value_ops (point_of p.values) (constraint_at f p b).lin)

abbrev pub MeetsAnswers : Contents → Point → Result Bool Wide → Type 0
MeetsAnswers f p (Ok true) = Meets f p × ((b : ℕ) → b < length f.atoms → FitsAt f p b)
MeetsAnswers f p (Ok false) = (are_met p.truth f.clauses ≡ false) ⊎ ((b : ℕ) × FailsFirst f p b)
MeetsAnswers f p (Err w) = (b : ℕ) × PassesFirst f p w b

-- the test of one constraint
abbrev pub HoldsAnswers : (ℕ → Fraction) → Constraint → Result Bool Wide → Type 0
HoldsAnswers at c (Ok b) = AllFit (value_ops at c.lin) × (IsTrue b ↔ Holds at c)
HoldsAnswers at c (Err w) = IsFirstPassing w (value_ops at c.lin)
