use Rattle.std.proofs.Common.{◌≡◌, take, false}
use Rattle.std.specs.Prelude.{map, unwrap_or}
use Rattle.simplex_judge.proofs.settling.truths.Given as goal

abbrev pub invariant-loop-sign : goal.invariant-loop-sign
invariant-loop-sign l = l.truths.items ≡ map (λ s. unwrap_or s false) (take l.sign-index l.signs)
