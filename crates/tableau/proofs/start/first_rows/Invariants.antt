use Rattle.std.proofs.Common.{map}
use Rattle.tableau.specs.inside.Start.{IsBegun}
use Rattle.tableau.proofs.start.first_rows.Given as goal

abbrev pub invariant-loop-done : goal.invariant-loop-done
invariant-loop-done l = IsBegun l.done l.n l.rows 0 (map (λ v. v.items) l.all.items)

abbrev pub invariant-loop-row : goal.invariant-loop-row
invariant-loop-row l = IsBegun l.vars l.n l.rows l.row-index (map (λ v. v.items) l.all.items)
