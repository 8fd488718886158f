-- The trace of a check that is stuck: where it starts, the pivots by Bland's rule, and what the operation is that passes.
use Rattle.std.specs.Prelude.{◌≡◌, ℕ, true, List, map, length, Option, Some, None}
use Rattle.frac128.specs.declared.operations.Wide.{Wide}
use Rattle.lin.specs.Operations.{IsFirstPassing}
use Rattle.formula.specs.declared.atom.Lit.{Lit}
use Rattle.formula.specs.Contents.{Contents, is_clause}
use Rattle.formula.specs.Farkas.{taken, farkas_ops}
use Rattle.tableau.specs.Table.{Table, width, basis, IsTableauOf}
use Rattle.theory_law.specs.declared.trace.Trace.{Trace}
use Rattle.theory_law.specs.declared.trace.Swap.{Swap}
use Rattle.theory_law.specs.declared.trace.Lemma.{Lemma}
use Rattle.theory_law.specs.declared.trace.Site.{Site}
use Rattle.theory_law.specs.declared.trace.Site.TheVariants.{Pivots, Pivot, Value, Point, Farkas}
use Rattle.simplex_law.specs.Config.{Limits, IsConsistent, IsStart, IsSettled, IsLeastViolated}
use Rattle.simplex_law.specs.Runs.{Reaches}
use Rattle.simplex_law.specs.declared.pair.Pair.{Pair}
use Rattle.simplex_law.specs.declared.bound.Side.{Side}
use Rattle.simplex_check.specs.Checks.{ValuePasses, NextPasses}
use Rattle.simplex_atoms.specs.LeftSides.{rows_of}
use Rattle.simplex_clash.specs.Clash.{IsLemmaOf}
use Rattle.simplex_fit.specs.Fit.{AreLimits}
use Rattle.simplex_judge.specs.Points.{DecideAtoms, PointPasses}

abbrev pub swaps_of : List Swap → List (ℕ × ℕ)
swaps_of swaps = map (λ s. (s.leave, s.enter)) swaps

-- the first configuration of a check is given by the basis and the literals
pub record IsFirst (f : Contents) (numbers : List ℕ) (lits : List Lit) (l : Limits) (t : Table) (place : ℕ → Pair) : Type 0 where
  pub tableau : IsTableauOf (length f.counts) (rows_of f.atoms) t
  pub basis_is : basis t ≡ numbers
  pub limits : AreLimits f lits (width t) l
  pub consistent : IsConsistent l (width t)
  pub start : IsStart l t place

-- from there the pivots, each by Bland's rule, lead to a configuration of which this holds
pub record EndsWith (Ends : Limits → Table → (ℕ → Pair) → Type 0) (f : Contents) (numbers : List ℕ) (lits : List Lit) (swaps : List (ℕ × ℕ)) : Type 0 where
  pub limits : Limits
  pub first : Table
  pub first_place : ℕ → Pair
  pub begins : IsFirst f numbers lits limits first first_place
  pub last : Table
  pub last_place : ℕ → Pair
  pub reaches : Reaches limits first first_place swaps last last_place
  pub ends : Ends limits last last_place

-- what holds of the last configuration: the pivots are spent and a variable is violated, or the operation is one of the next
-- pivot, of a basic variable's value, or of the point where nothing is violated; and it passes
abbrev pub Stops : Contents → List Lit → ℕ → List (ℕ × ℕ) → Site → Option Wide → Limits → Table → (ℕ → Pair) → Type 0
Stops f lits pivots swaps Pivots wide l t place = (length swaps ≡ pivots) × (r : ℕ) × (side : Side) × IsLeastViolated l t place r side
Stops f lits pivots swaps Pivot (Some w) l t place = NextPasses l t place w
Stops f lits pivots swaps Value (Some w) l t place = ValuePasses t place w
Stops f lits pivots swaps Point (Some w) l t place = IsSettled l t place × DecideAtoms f lits × PointPasses f lits l t place w
Stops f lits pivots swaps Pivot None l t place = ⊥
Stops f lits pivots swaps Value None l t place = ⊥
Stops f lits pivots swaps Point None l t place = ⊥
Stops f lits pivots swaps Farkas wide l t place = ⊥

-- the sum of a lemma of literals that are opposites of those of the trace passes
abbrev pub SumStops : Contents → List Lit → Option Wide → Option Lemma → Type 0
SumStops f lits (Some w) (Some m) = IsLemmaOf f lits m × IsFirstPassing w (farkas_ops (taken f m.clause m.coefs.list))
SumStops f lits None m = ⊥
SumStops f lits (Some w) None = ⊥

-- a stop for a lemma's sum needs no pivots; each other one ends a trace
abbrev pub StuckWhere : Contents → ℕ → List ℕ → List Lit → List (ℕ × ℕ) → Option Wide → Option Lemma → Site → Type 0
StuckWhere f pivots numbers lits swaps wide lemma Farkas = SumStops f lits wide lemma
StuckWhere f pivots numbers lits swaps wide lemma Pivots = EndsWith (Stops f lits pivots swaps Pivots wide) f numbers lits swaps
StuckWhere f pivots numbers lits swaps wide lemma Pivot = EndsWith (Stops f lits pivots swaps Pivot wide) f numbers lits swaps
StuckWhere f pivots numbers lits swaps wide lemma Value = EndsWith (Stops f lits pivots swaps Value wide) f numbers lits swaps
StuckWhere f pivots numbers lits swaps wide lemma Point = EndsWith (Stops f lits pivots swaps Point wide) f numbers lits swaps

-- a trace of literals in rising order, from a basis of the formula's rows
pub record IsStuck (f : Contents) (pivots : ℕ) (t : Trace) : Type 0 where
  pub rise : is_clause (length f.atoms) t.lits ≡ true
  pub of_basis : (table : Table) × IsTableauOf (length f.counts) (rows_of f.atoms) table × (basis table ≡ t.basis)
  pub stops : StuckWhere f pivots t.basis t.lits (swaps_of t.pivots) t.wide t.lemma t.site
