use Rattle.std.proofs.Common.{◌≡◌, [], take, drop}
use Rattle.plan_step.specs.Effects.{first_clash}
use Rattle.plan_step.specs.Touches.{changes_of}
use Rattle.plan_step.proofs.clashes.test_pairs.Given as goal

abbrev pub invariant-loop-i : goal.invariant-loop-i
invariant-loop-i l = first_clash 0 [] (changes_of l.touches) ≡ first_clash l.i (changes_of (take l.i l.touches)) (changes_of (drop l.i l.touches))
