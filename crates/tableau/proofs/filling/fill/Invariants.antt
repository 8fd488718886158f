use Rattle.std.proofs.Common.{length}
use Rattle.tableau.specs.Table.{at}
use Rattle.tableau.proofs.FilledRows.{IsFilled}
use Rattle.tableau.proofs.filling.fill.Given as goal

abbrev pub invariant-loop-i : goal.invariant-loop-i
invariant-loop-i l = IsFilled (λ v. v.items) l.rows (at l.solved) (length l.solved) l.r l.e l.into l.i
