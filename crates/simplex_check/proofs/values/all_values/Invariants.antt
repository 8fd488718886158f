use Rattle.std.proofs.Common.{◌≡◌, ℕ, ◌<◌}
use Rattle.simplex_law.specs.Config.{pair_at, value_of}
use Rattle.simplex_check.specs.Known.{IsKnown}
use Rattle.simplex_check.proofs.values.all_values.Given as goal

abbrev pub invariant-loop-i : goal.invariant-loop-i
invariant-loop-i l = IsKnown l.t (pair_at l.place) l.known × ((i : ℕ) → i < l.i → pair_at l.values i ≡ value_of l.t (pair_at l.place) i)
