use Rattle.typing_names.proofs.TypeNameLaws.{one_more_sighted}
use Rattle.typing_names.proofs.type_names.add_names.Goals as goal

pub loop-spot-preserved : goal.loop-spot-preserved
loop-spot-preserved c = one_more_sighted _ _ _ _ _ _ _ c.loop-spot.invariant c.loop-spot-test.true c.spot-item.is c.as_str.ensures c.in_ok-add_name.ensures.names
