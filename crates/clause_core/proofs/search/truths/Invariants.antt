use Rattle.std.proofs.Common.{◌≡◌, ℕ, ◌<◌, Some, slice_get, length}
use Rattle.formula.specs.declared.atom.Lit.{Lit}
use Rattle.clause_trail.specs.Standing.{Stands}
use Rattle.clause_core.proofs.search.truths.Given as goal

abbrev pub invariant-loop-b : goal.invariant-loop-b
invariant-loop-b l = record {
  counted : length l.truths.items ≡ l.b;
  holds : (p : ℕ) (m : Lit) → m.boolean < l.b → Stands l.trail.entries p m → slice_get l.truths.items m.boolean ≡ Some m.pos;
}
