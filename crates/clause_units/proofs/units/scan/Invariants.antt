use Rattle.std.proofs.Common.{◌≡◌, ◌⊎◌, ℕ, ◌<◌, get_or, Some, None, false}
use Rattle.std.specs.Option.{IfSome}
use Rattle.std.specs.List.{Contains}
use Rattle.formula.specs.declared.atom.Lit.{Lit}
use Rattle.clause_units.specs.Truth.{truth_of}
use Rattle.clause_units.proofs.units.scan.Given as goal

abbrev pub invariant-loop-lit : goal.invariant-loop-lit
invariant-loop-lit l = record {
  seen : (k : ℕ) (d : Lit) → k < l.lit-index → (truth_of l.truths (get_or l.clause k d) ≡ Some false) ⊎ (l.unit ≡ Some (get_or l.clause k d));
  unit : IfSome l.unit (λ m. Contains l.clause m × (truth_of l.truths m ≡ None));
}
