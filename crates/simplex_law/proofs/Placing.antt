-- The variable that helps has a cell, and the bound that was violated is a place on the bounds.
use Rattle.std.proofs.Common.{◌≢◌, inl, inr, ℕ, Option, Some, None, refl, sym, subst}
use lib.IntN.{pos}
use Rattle.rational.specs.Fraction.{Fraction, whole}
use Rattle.rational.proofs.OrderLaws.{<ℚ-apart, ≤ℚ_refl}
use Rattle.tableau.specs.Table.{Table, width}
use Rattle.simplex_law.specs.Pairs.{◌≤ₚ◌}
use Rattle.simplex_law.specs.Bounds.{lower_pair, upper_pair, OnLower, OnUpper}
use Rattle.simplex_law.specs.Config.{start_pair, IsStart, Limits, lower_of, upper_of, row_pair, IsOn, IsPlaced, IsConsistent, IsConsistentAt, HelpsBy, Violates, violated_pair}
use Rattle.simplex_law.specs.declared.pair.Pair.{Pair}
use Rattle.simplex_law.specs.declared.bound.Bound.{Bound}
use Rattle.simplex_law.specs.declared.bound.Side.{Side}
use Rattle.simplex_law.specs.declared.bound.Side.TheVariants.{Under, Over}
use Rattle.simplex_law.proofs.PairLaws.{lower_on, upper_on}

pub nonzero : (side : Side) (c : Fraction) (lo up : Option Bound) (x : Pair) → HelpsBy side c lo up x → c ≢ whole (pos 0)
nonzero Under c lo up x (inl h) e = <ℚ-apart (whole (pos 0)) c h.0 (sym e)
nonzero Under c lo up x (inr h) e = <ℚ-apart c (whole (pos 0)) h.0 e
nonzero Over c lo up x (inl h) e = <ℚ-apart c (whole (pos 0)) h.0 e
nonzero Over c lo up x (inr h) e = <ℚ-apart (whole (pos 0)) c h.0 (sym e)

-- the bound that was violated is a place on the bounds
pub placed_at : (l : Limits) (t : Table) (place : ℕ → Pair) (r : ℕ) (side : Side) → Violates l t place r side → IsConsistentAt (lower_of l r) (upper_of l r) → IsOn l r (violated_pair side (lower_of l r) (upper_of l r))
placed_at l t place r Under h c = lower_on (lower_of l r) (upper_of l r) (row_pair t place r) h c
placed_at l t place r Over h c = upper_on (lower_of l r) (upper_of l r) (row_pair t place r) h c

-- ---- the start of a check
on_itself : (x : Pair) → x ≤ₚ x
on_itself x = inr (refl, ≤ℚ_refl x.small)

start_on : (lo up : Option Bound) → IsConsistentAt lo up → OnLower lo (start_pair lo up) × OnUpper up (start_pair lo up)
start_on None None c = (tt, tt)
start_on None (Some b) c = (tt, on_itself (upper_pair b))
start_on (Some b) up c = (on_itself (lower_pair b), c)

pub start_placed : (l : Limits) (t : Table) (place : ℕ → Pair) → IsConsistent l (width t) → IsStart l t place → IsPlaced l t place
start_placed l t place c s j lj o =
    subst (λ (x : Pair). IsOn l j x) (sym (s j lj o)) (start_on (lower_of l j) (upper_of l j) (c j lj))
