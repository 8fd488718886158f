use Rattle.std.proofs.Common.{◌≡◌, ◌<◌, length, [], take, drop}
use Rattle.plan_step.specs.Effects.{first_clash}
use Rattle.plan_step.specs.Touches.{changes_of}
use Rattle.plan_step.proofs.Tabling.{Tells}
use Rattle.plan_step.proofs.clashes.test_table.Given as goal

abbrev pub invariant-loop-i : goal.invariant-loop-i
invariant-loop-i l = record {
  head : 0 < length l.sums;
  tells : Tells (changes_of (take l.i l.touches)) l.sums;
  clash : first_clash 0 [] (changes_of l.touches) ≡ first_clash l.i (changes_of (take l.i l.touches)) (changes_of (drop l.i l.touches));
}
