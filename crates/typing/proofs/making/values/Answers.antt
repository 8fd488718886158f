use Rattle.typing.proofs.ItemLaws.{values_more, values_all}
use Rattle.typing.proofs.making.values.Goals as goal

pub loop-item-preserved : goal.loop-item-preserved
loop-item-preserved c = values_more _ _ _ _ _ c.loop-item-test.true c.item-item.is c.loop-item.invariant c.in_ok-add_value.ensures

pub returns : goal.returns
returns c = values_all _ _ _ c.loop-item.invariant c.loop-item-test.false
