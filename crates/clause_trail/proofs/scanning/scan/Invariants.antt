use Rattle.std.proofs.Common.{◌≡◌, ◌⊎◌, ℕ, ◌<◌, length, get_or, Some}
use Rattle.std.specs.Option.{IfSome}
use Rattle.std.specs.List.{Contains}
use Rattle.formula.specs.declared.atom.Lit.{Lit}
use Rattle.formula.specs.Reading.{opposite}
use Rattle.clause_trail.specs.Standing.{Before, IsFree}
use Rattle.clause_trail.proofs.scanning.scan.Given as goal

abbrev pub invariant-loop-lit : goal.invariant-loop-lit
invariant-loop-lit l = record {
  seen : (k : ℕ) (d : Lit) → k < l.lit-index → Before l.trail.entries (length l.trail.entries) (opposite (get_or l.clause k d)) ⊎ (l.unit ≡ Some (get_or l.clause k d));
  unit : IfSome l.unit (λ m. Contains l.clause m × IsFree l.trail.entries m.boolean);
}
