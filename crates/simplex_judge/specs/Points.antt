-- The point of a settled configuration, and the operations of making and of testing it.
use Rattle.std.specs.Prelude.{◌≡◌, ◌⊎◌, ℕ, ◌<◌, List, length, Some, slice_get}
use Rattle.std.specs.List.{Contains}
use Rattle.rational.specs.Fraction.{Fraction}
use Rattle.frac128.specs.declared.operations.Wide.{Wide}
use Rattle.lin.specs.Linear.{point_of}
use Rattle.formula.specs.declared.atom.Atom.{Atom}
use Rattle.formula.specs.declared.atom.Lit.{Lit}
use Rattle.formula.specs.declared.point.Point.{Point}
use Rattle.formula.specs.Contents.{Contents}
use Rattle.formula.specs.Meets.{truth_at, PassesFirst}
use Rattle.theory_law.specs.Readings.{IsExact}
use Rattle.tableau.specs.Table.{Table, width}
use Rattle.simplex_law.specs.Pairs.{at_small}
use Rattle.simplex_law.specs.Config.{Limits, value_of}
use Rattle.simplex_law.specs.declared.pair.Pair.{Pair}
use Rattle.simplex_point.specs.Point.{IsInfinitesimal, InfinitesimalPasses, AtSmallPasses}

-- the literals decide every atom
abbrev pub DecideAtoms : Contents → List Lit → Type 0
DecideAtoms f lits = (b : ℕ) (a : Atom) → slice_get f.atoms b ≡ Some (Some a) → (m : Lit) × Contains lits m × (m.boolean ≡ b)

-- the values of the first n variables where the infinitesimal is d
pub record AreValues (value : ℕ → Pair) (n : ℕ) (d : Fraction) (values : List Fraction) : Type 0 where
  pub long : length values ≡ n
  pub each : (i : ℕ) → i < n → point_of values i ≡ at_small (value i) d

-- with these values, and the truth of the literals
pub record IsPointAt (f : Contents) (lits : List Lit) (value : ℕ → Pair) (d : Fraction) (p : Point) : Type 0 where
  pub exact : IsExact f p
  pub values : AreValues value (length f.counts) d p.values
  pub truths : (m : Lit) → Contains lits m → truth_at p.truth m.boolean ≡ m.pos

-- w is an operation of the infinitesimal d, of a value at it, or of the test of the point, and passes
abbrev pub MakingPasses : Limits → (ℕ → Pair) → ℕ → ℕ → Wide → Type 0
MakingPasses l value n vars w =
    InfinitesimalPasses l value n w ⊎ ((d : Fraction) × IsInfinitesimal l value n d × (v : ℕ) × (v < vars) × AtSmallPasses (value v) d w)

abbrev pub TestPasses : Contents → List Lit → Limits → (ℕ → Pair) → ℕ → Wide → Type 0
TestPasses f lits l value n w = (d : Fraction) × IsInfinitesimal l value n d × (p : Point) × IsPointAt f lits value d p × (b : ℕ) × PassesFirst f p w b

abbrev pub PointPasses : Contents → List Lit → Limits → Table → (ℕ → Pair) → Wide → Type 0
PointPasses f lits l t place w =
    (value : ℕ → Pair) × ((i : ℕ) → i < width t → value i ≡ value_of t place i) × (MakingPasses l value (width t) (length f.counts) w ⊎ TestPasses f lits l value (width t) w)
