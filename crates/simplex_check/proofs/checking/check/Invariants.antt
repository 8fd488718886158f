use Rattle.std.proofs.Common.{◌≡◌, length}
use Rattle.simplex_law.specs.Config.{pair_at}
use Rattle.simplex_check.specs.Checks.{limits, LeadsTo}
use Rattle.simplex_check.specs.Known.{IsKnown}
use Rattle.simplex_check.proofs.checking.check.Given as goal

abbrev pub invariant-loop-done : goal.invariant-loop-done
invariant-loop-done l = LeadsTo (limits l.lower l.upper) l.fn.t (pair_at l.fn.place) l.trace.items l.t (pair_at l.place) × (length l.trace.items ≡ l.done) × IsKnown l.t (pair_at l.place) l.known
