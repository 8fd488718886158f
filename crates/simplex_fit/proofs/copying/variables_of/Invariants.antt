use Rattle.std.proofs.Common.{◌≡◌, take, []}
use Rattle.simplex_fit.proofs.copying.variables_of.Given as goal

abbrev pub invariant-loop-v : goal.invariant-loop-v
invariant-loop-v l = l.copy ≡ record { counts = take l.v l.formula.counts; atoms = []; clauses = [] }
