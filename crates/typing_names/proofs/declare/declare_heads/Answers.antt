use Rattle.typing_names.proofs.Declaring.{none_declared, one_more_declared, all_declared, all_sighted}
use Rattle.typing_names.proofs.declare.declare_heads.Goals as goal

pub loop-item-init : goal.loop-item-init
loop-item-init c = none_declared _ _ _ _

pub loop-item-preserved : goal.loop-item-preserved
loop-item-preserved c = one_more_declared _ _ _ _ _ _ _ _ _ _ _ _ _ c.loop-item.invariant c.loop-item-test.true c.item-item.is c.in_ok-one.ensures.faults c.in_ok-one.ensures.names c.beside-found.ensures

pub returns-clause-faults : goal.returns-clause-faults
returns-clause-faults c = all_declared _ _ _ _ _ _ _ _ c.loop-item.invariant c.loop-item-test.false

pub returns-clause-names : goal.returns-clause-names
returns-clause-names c = all_sighted _ _ _ _ _ _ _ _ c.loop-item.invariant c.loop-item-test.false
