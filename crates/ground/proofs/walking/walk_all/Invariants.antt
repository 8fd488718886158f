use Rattle.ground.proofs.AllActions.{IsAt}
use Rattle.ground.proofs.walking.walk_all.Given as goal

abbrev pub invariant-loop-number : goal.invariant-loop-number
invariant-loop-number l = IsAt l.task l.limit l.initial.walk l.walk l.number
