use Rattle.clause_learn.specs.inside.Analysis.{IsChain}
use Rattle.clause_learn.proofs.fixed.chain.Given as goal

abbrev pub invariant-loop-i : goal.invariant-loop-i
invariant-loop-i l = IsChain l.clauses l.trail.entries l.fixed.place l.fixed.lit l.fixed.reason l.i l.marked l.resolved
