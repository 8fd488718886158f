use Rattle.typing_types.proofs.GivenLaws.{one_more_given, counted_of}
use Rattle.typing_types.proofs.given.judge_given.Goals as goal

pub judge_item-requires : goal.judge_item-requires
judge_item-requires c = counted_of c.args.items.now _ _ _ _ _ _ c.requires c.loop-item-test.true c.item-item.is c.loop-item.invariant.signs_for c.loop-item.invariant.values_for

pub loop-item-preserved : goal.loop-item-preserved
loop-item-preserved c =
    one_more_given _ _ _ _ _ _ _ _ _ _ _ _ c.loop-item.invariant c.loop-item-test.true c.item-item.is
    c.in_ok-judge_item.ensures.next c.in_ok-judge_item.ensures.signs c.in_ok-judge_item.ensures.values
