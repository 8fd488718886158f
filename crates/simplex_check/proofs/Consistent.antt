-- Bounds that don't cross.
use Rattle.std.proofs.Common.{◌≡◌, Bool, false, IsTrue, Option, Some, None}
use Rattle.simplex_law.specs.Bounds.{lower_pair}
use Rattle.simplex_law.specs.Config.{IsConsistentAt}
use Rattle.simplex_law.specs.declared.bound.Bound.{Bound}
use Rattle.simplex_law.proofs.PairLaws.{on_upper, fails}
use Rattle.simplex_check.specs.Starts.{Crosses}

pub consistent_at : (lo up : Option Bound) (b : Bool) → b ≡ false → (Crosses lo up → IsTrue b) → IsConsistentAt lo up
consistent_at None up b e f = tt
consistent_at (Some x) up b e f = on_upper up (lower_pair x) (fails b e f)
