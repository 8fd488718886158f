use Rattle.pddl_form.proofs.Loops.{all_read}
use Rattle.typing_uses.specs.Names.{scope_of}
use Rattle.typing_names.proofs.ProblemLaws.{no_item, one_more_item}
use Rattle.typing_names.proofs.problem.resolve_items.Goals as goal

pub loop-item-init : goal.loop-item-init
loop-item-init c = no_item (scope_of c.args.names.now) _ _ _ c.new.ensures

pub loop-item-preserved : goal.loop-item-preserved
loop-item-preserved c = one_more_item (scope_of c.args.names.now) _ _ _ _ _ _ c.loop-item.found _ c.in_ok-one.one c.loop-item.invariant c.loop-item-test.true c.item-item.is c.in_ok-one.ensures c.in_ok-add.ensures

pub returns : goal.returns
returns c = all_read _ _ _ _ _ _ c.loop-item.invariant c.loop-item-test.false
