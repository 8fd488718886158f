use Rattle.tableau.specs.Table.{cell}
use Rattle.simplex_law.specs.Config.{pair_at}
use Rattle.simplex_check.proofs.Running.{IsRunning}
use Rattle.simplex_check.proofs.value.row_pair.Given as goal

abbrev pub invariant-loop-j : goal.invariant-loop-j
invariant-loop-j l = IsRunning (cell l.t l.r) (λ j. (pair_at l.place j).main) l.j l.main × IsRunning (cell l.t l.r) (λ j. (pair_at l.place j).small) l.j l.small
