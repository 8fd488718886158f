use Rattle.std.proofs.Common.{◌≡◌, take, []}
use Rattle.simplex_fit.proofs.copying.without_clauses.Given as goal

abbrev pub invariant-loop-b : goal.invariant-loop-b
invariant-loop-b l = l.copy ≡ record { counts = l.formula.counts; atoms = take l.b l.formula.atoms; clauses = [] }
