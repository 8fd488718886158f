use Rattle.std.proofs.Common.{sym, ◌∙◌}
use Rattle.plan_step.specs.Meaning.{clashes}
use Rattle.plan_step.specs.Touches.{change_in}
use Rattle.plan_step.proofs.Clashing.{among}
use Rattle.plan_step.proofs.clashes.clashes_with.Goals as goal

pub returns-then-is_clash : goal.returns-then-is_clash
returns-then-is_clash c =
    sym (among (clashes (change_in c.args.touch.now)) c.args.front.now c.loop-other.other-index c.other-item.result c.loop-other-test.true c.other-item.is (sym c.is_clash.ensures ∙ c.if-is_clash.true))
