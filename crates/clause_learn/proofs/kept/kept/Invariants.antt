use Rattle.std.proofs.Common.{◌≡◌, ℕ, ◌<◌, true, false, Some, slice_get}
use Rattle.std.specs.List.{Contains, All}
use Rattle.formula.specs.declared.atom.Lit.{Lit}
use Rattle.formula.specs.Reading.{opposite}
use Rattle.clause_learn.specs.Learning.{IsRising}
use Rattle.clause_trail.specs.Standing.{Stands}
use Rattle.clause_learn.proofs.kept.kept.Given as goal

abbrev pub invariant-loop-b : goal.invariant-loop-b
invariant-loop-b l = record {
  sound : (m : Lit) → Contains l.lits.items m → (p : ℕ) × Stands l.trail.entries p (opposite m) × (slice_get l.marked p ≡ Some true) × (slice_get l.resolved p ≡ Some false);
  complete : (p : ℕ) (m : Lit) → m.boolean < l.b → Stands l.trail.entries p m → slice_get l.marked p ≡ Some true → slice_get l.resolved p ≡ Some false → Contains l.lits.items (opposite m);
  rising : IsRising l.lits.items;
  low : All (λ m. m.boolean < l.b) l.lits.items;
}
