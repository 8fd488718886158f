use Rattle.std.proofs.Common.{◌⊎◌, ℕ, ◌<◌, get_or, List}
use Rattle.formula.specs.declared.atom.Lit.{Lit}
use Rattle.clause_trail.specs.Scanning.{IsSatisfied, HasTwoFree}
use Rattle.clause_trail.proofs.scanning.first_open.Given as goal

abbrev pub invariant-loop-k : goal.invariant-loop-k
invariant-loop-k l = (i : ℕ) (d : List Lit) → i < l.k → IsSatisfied l.trail.entries (get_or l.clauses i d) ⊎ HasTwoFree l.trail.entries (get_or l.clauses i d)
