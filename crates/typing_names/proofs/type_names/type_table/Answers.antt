use Rattle.typing_names.proofs.TypeNameLaws.{one_more_type, all_types}
use Rattle.typing_names.proofs.type_names.type_table.Goals as goal

pub loop-one-preserved : goal.loop-one-preserved
loop-one-preserved c =
    one_more_type _ _ _ _ _ _ _ _ c.loop-one.invariant c.loop-one-test.true c.one-item.is c.as_str.ensures c.in_ok-add_name-2.ensures.names c.as_slice.ensures c.in_ok-add_names.ensures

pub returns : goal.returns
returns c = all_types _ _ _ c.loop-one.invariant c.loop-one-test.false
