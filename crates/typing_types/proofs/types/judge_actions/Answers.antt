use Rattle.typing_types.proofs.TypeLaws.{one_more_judged}
use Rattle.typing_types.proofs.types.judge_actions.Goals as goal

pub loop-at-preserved : goal.loop-at-preserved
loop-at-preserved c =
    one_more_judged _ _ _ _ _ c.in-Some.action.now _ _ _ c.loop-at.invariant c.loop-at-test.true c.index-written-at.is
    c.in-Some.ensures.lookup.3.0 c.in-Some.ensures.lookup.1 c.in_ok-judge_action.ensures
