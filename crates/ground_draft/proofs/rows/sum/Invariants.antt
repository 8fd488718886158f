use Rattle.std.proofs.Common.{pos}
use Rattle.rational.specs.Fraction.{whole}
use Rattle.ground_draft.specs.inside.Acts.{grow_by, grow_ops_by}
use Rattle.ground_draft.proofs.Loops.{IsRunning}
use Rattle.ground_draft.proofs.rows.sum.Given as goal

abbrev pub invariant-loop-next : goal.invariant-loop-next
invariant-loop-next l = IsRunning (grow_by l.func) (grow_ops_by l.func) (whole (pos 0)) l.moves l.sum l.next-index
