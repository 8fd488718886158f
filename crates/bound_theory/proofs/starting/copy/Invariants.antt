use Rattle.std.proofs.Common.{◌≡◌, ◌<◌, ℕ, take, Option, Some}
use Rattle.std.specs.Prelude.{slice_get}
use Rattle.formula.specs.declared.atom.Atom.{Atom}
use Rattle.theory_law.specs.Seen.{IsMine}
use Rattle.bound_theory.specs.Bounds.{is_taken}
use Rattle.bound_theory.proofs.starting.copy.Given as goal

abbrev pub invariant-loop-b : goal.invariant-loop-b
invariant-loop-b l = record {
  counts : l.copy.counts ≡ l.formula.counts;
  atoms : l.copy.atoms ≡ take l.b l.formula.atoms;
  mine : (i : ℕ) → i < l.b → (a : Option Atom) → slice_get l.formula.atoms i ≡ Some a → IsMine is_taken l.formula.counts a;
}
