use Rattle.std.proofs.Common.{ℕ, ◌<◌}
use Rattle.std.specs.Option.{MatchOption}
use Rattle.clause_trail.specs.Decisions.{HasDecisionAt}
use Rattle.clause_trail.proofs.decisions.last_decision.Given as goal

abbrev pub invariant-loop-i : goal.invariant-loop-i
invariant-loop-i l = MatchOption l.last ((j : ℕ) → j < l.i → HasDecisionAt l.entries j → ⊥) (λ d. HasDecisionAt l.entries d × ((j : ℕ) → d < j → j < l.i → HasDecisionAt l.entries j → ⊥))
