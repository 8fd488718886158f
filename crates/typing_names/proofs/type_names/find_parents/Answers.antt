use Rattle.std.proofs.Common.{refl}
use Rattle.typing_names.proofs.TypeNameLaws.{no_parents, one_more_passed, all_passed}
use Rattle.typing_names.proofs.type_names.find_parents.Goals as goal

pub loop-passed-init : goal.loop-passed-init
loop-passed-init c = no_parents _ _ _ _ _ _ refl c.number_above-root.ensures c.len.ensures.len c.in_ok-parents.ensures

pub loop-passed-preserved : goal.loop-passed-preserved
loop-passed-preserved c = one_more_passed _ _ _ _ _ _ _ c.loop-passed.invariant c.loop-passed-test.true refl c.index-types-types.is c.set_parent.ensures

pub returns-clause-above : goal.returns-clause-above
returns-clause-above c = all_passed _ _ _ _ c.loop-passed.invariant c.loop-passed-test.false
