use Rattle.std.specs.List.{Contains}
use Rattle.std.proofs.Common.{◌≡◌, ◌⊎◌, ℕ, ◌<◌, get_or, true, Some, slice_get}
use Rattle.formula.specs.declared.atom.Lit.{Lit}
use Rattle.clause_trail.specs.Standing.{Stands}
use Rattle.clause_learn.proofs.marks.mark_clause.Given as goal

abbrev pub invariant-loop-lit : goal.invariant-loop-lit
invariant-loop-lit l = record {
  kept : (p : ℕ) → slice_get l.initial.marked p ≡ Some true → slice_get l.marked p ≡ Some true;
  here : (k : ℕ) (d : Lit) → k < l.lit-index → (p : ℕ) (m : Lit) → Stands l.trail.entries p m → m.boolean ≡ (get_or l.clause k d).boolean → slice_get l.marked p ≡ Some true;
  only : (p : ℕ) → slice_get l.marked p ≡ Some true → (slice_get l.initial.marked p ≡ Some true) ⊎ ((m : Lit) × Contains l.clause m × (q : Lit) × Stands l.trail.entries p q × (q.boolean ≡ m.boolean));
}
