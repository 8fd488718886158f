use Rattle.std.proofs.Common.{ℕ, ◌<◌, IsTrue}
use Rattle.tableau.specs.Table.{is_basic}
use Rattle.simplex_law.specs.Config.{pair_at, IsOn, row_pair}
use Rattle.simplex_check.specs.Checks.{limits}
use Rattle.simplex_check.specs.Known.{IsKnown}
use Rattle.simplex_check.proofs.choice.violated.Given as goal

abbrev pub invariant-loop-i : goal.invariant-loop-i
invariant-loop-i l = IsKnown l.t (pair_at l.place) l.known × ((i : ℕ) → i < l.i → IsTrue (is_basic l.t i) → IsOn (limits l.lower l.upper) i (row_pair l.t (pair_at l.place) i))
