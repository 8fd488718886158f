use Rattle.std.proofs.Common.{ℕ, ◌<◌, ◌∷◌, [], List, get_or}
use Rattle.formula.specs.declared.atom.Lit.{Lit}
use Rattle.theory_law.specs.Licence.{IsPart}
use Rattle.clause_learn.proofs.fixed.is_new.Given as goal

abbrev pub invariant-loop-clause : goal.invariant-loop-clause
invariant-loop-clause l = (k : ℕ) (d : List Lit) → k < l.clause-index → IsPart (get_or l.clauses k d) (l.lit ∷ []) → ⊥
