use Rattle.typing.proofs.ItemLaws.{facts_more, facts_all}
use Rattle.typing.proofs.making.facts.Goals as goal

pub loop-item-preserved : goal.loop-item-preserved
loop-item-preserved c = facts_more _ _ _ _ _ c.loop-item-test.true c.item-item.is c.loop-item.invariant c.in_ok-add_fact.ensures

pub returns : goal.returns
returns c = facts_all _ _ _ c.loop-item.invariant c.loop-item-test.false
