use Rattle.std.proofs.Common.{ℕ, ◌<◌}
use Rattle.clause_trail.specs.Decisions.{HasDecisionAt}
use Rattle.clause_trail.proofs.decisions.first_decision.Given as goal

abbrev pub invariant-loop-i : goal.invariant-loop-i
invariant-loop-i l = (j : ℕ) → j < l.i → HasDecisionAt l.entries j → ⊥
