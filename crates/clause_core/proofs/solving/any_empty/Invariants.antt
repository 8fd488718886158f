use Rattle.std.proofs.Common.{◌≡◌, ℕ, ◌<◌, get_or, List, []}
use Rattle.formula.specs.declared.atom.Lit.{Lit}
use Rattle.clause_core.proofs.solving.any_empty.Given as goal

abbrev pub invariant-loop-clause : goal.invariant-loop-clause
invariant-loop-clause l = (k : ℕ) (d : List Lit) → k < l.clause-index → get_or l.clauses k d ≡ [] → ⊥
