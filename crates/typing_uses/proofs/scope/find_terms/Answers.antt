use Rattle.pddl_form.proofs.Loops.{one_more_read, all_read, none_read}
use Rattle.typing_uses.proofs.scope.find_terms.Goals as goal

pub loop-spot-init : goal.loop-spot-init
loop-spot-init c = none_read _ _ _ _ c.new.ensures

pub loop-spot-preserved : goal.loop-spot-preserved
loop-spot-preserved c = one_more_read _ _ _ _ _ _ _ _ _ _ c.loop-spot.invariant c.loop-spot-test.true c.spot-item.is c.find_term-one.ensures c.in_ok-add.ensures

pub returns : goal.returns
returns c = all_read _ _ _ _ _ _ c.loop-spot.invariant c.loop-spot-test.false
