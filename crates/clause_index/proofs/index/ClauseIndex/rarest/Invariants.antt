use Rattle.std.specs.List.{Contains}
use Rattle.clause_index.proofs.index.ClauseIndex.rarest.Given as goal

abbrev pub invariant-loop-lit : goal.invariant-loop-lit
invariant-loop-lit l = Contains l.clause l.rarest
