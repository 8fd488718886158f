use Rattle.std.proofs.Common.{◌≡◌, ◌-◌, length}
use Rattle.clause_core.proofs.search.search.Given as goal

abbrev pub invariant-search : goal.invariant-search
invariant-search g l = record {
  formula : l.core.formula ≡ l.initial.core.formula;
  pivots : (g.T.Theory.seen l.core.theory).pivots ≡ (g.T.Theory.seen l.initial.core.theory).pivots;
}

abbrev pub decreases-search : goal.decreases-search
decreases-search g l = length l.core.formula.atoms - length l.core.trail
