use Rattle.pddl_domain.proofs.Actions.{action_start, action_key, action_cut, action_end}
use Rattle.pddl_domain.proofs.action.read_action.Goals as goal

pub loop-key-init : goal.loop-key-init
loop-key-init c = action_start _ _ _ _ _ _ _ _ c.in-Some.ensures c.in_ok-name.ensures c.bare_action-found.ensures

pub loop-key-preserved : goal.loop-key-preserved
loop-key-preserved c =
    action_key _ _ _ _ _ _ _ _ _ _ _ _ _ _ _ _ _ c.loop-key.invariant c.in-Some-parted.ensures c.in-Some-parted-2.ensures c.in_ok-one.ensures c.in_ok-add_part.ensures
    c.see_key-seen.ensures c.find_key.ensures c.word.ensures

pub returns : goal.returns
returns c = action_end _ _ _ _ _ _ _ c.loop-key.invariant c.in_default-parted.ensures

pub returns-in_default-parted-2 : goal.returns-in_default-parted-2
returns-in_default-parted-2 c = action_cut _ _ _ _ _ _ _ _ _ _ _ c.loop-key.invariant c.in-Some-parted.ensures c.in_default-parted-2.ensures c.in_ok-_none.ensures
