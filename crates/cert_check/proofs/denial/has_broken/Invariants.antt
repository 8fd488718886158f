use Rattle.std.proofs.Common.{◌≡◌, ℕ, ◌<◌, List, Some, get_or}
use Rattle.std.specs.Prelude.{slice_get}
use Rattle.formula.specs.declared.atom.Lit.{Lit}
use Rattle.clause_units.specs.Scanning.{IsBroken}
use Rattle.cert_check.proofs.denial.has_broken.Given as goal

abbrev pub invariant-loop-number : goal.invariant-loop-number
invariant-loop-number l = (k : ℕ) (d : List Lit) → k < l.number-index → slice_get l.clauses (get_or l.numbers k 0) ≡ Some d → IsBroken l.truths d → ⊥
