use Rattle.std.proofs.Common.{List, Bool}
use Rattle.formula.specs.declared.atom.Lit.{Lit}
use Rattle.clause_learn.specs.inside.Analysis.{IsAnalyzed}
use Rattle.clause_learn.proofs.Rup.{IsPartial}
use Rattle.clause_learn.proofs.kept.hints.Given as goal

abbrev pub invariant-loop-i : goal.invariant-loop-i
invariant-loop-i l = (clauses : List (List Lit)) (marked : List Bool) (before : List Lit) → IsAnalyzed clauses l.entries marked l.resolved l.conflict before → IsPartial clauses l.entries marked l.resolved before l.i l.hints.items
