use Rattle.lin.specs.Linear.{point_of}
use Rattle.pattern.specs.Rolled.{plus_term, term_ops}
use Rattle.pattern.proofs.Turns.{IsInTurn}
use Rattle.pattern.proofs.rolling.value_at_last.Given as goal

abbrev pub invariant-loop-i : goal.invariant-loop-i
invariant-loop-i l = IsInTurn (term_ops l.incs l.count (point_of l.values)) (plus_term l.incs l.count (point_of l.values)) l.l.constant l.l.terms l.sum l.i
