use Rattle.std.proofs.Common.{sym, ◌∙◌}
use Rattle.std.proofs.lemmas.Result.{err_from_is_err_and}
use Rattle.ground_parts.specs.Forms.{setting_in}
use Rattle.ground_draft.proofs.Loops.{making-start, making-refused, making-next, making-none, making-done}
use Rattle.ground_draft.proofs.Whole.{condition_agrees}
use Rattle.ground_draft.proofs.leaves.all_leaves.Goals as goal

pub loop-cond-init : goal.loop-cond-init
loop-cond-init c =
    making-start _ _ _ (condition_agrees (setting_in c.args.given.now) c.args.given.now.atoms.now c.args.args.now) c.args.conds.now _ c.new-leaves.ensures

pub returns-in_err-leaf : goal.returns-in_err-leaf
returns-in_err-leaf c =
    let p = err_from_is_err_and c.from_residual.result c.from_residual.ensures.1 in
    rw (p.1, p.2) (making-refused _ _ _ (condition_agrees (setting_in c.args.given.now) c.args.given.now.atoms.now c.args.args.now) c.args.conds.now c.loop-cond.leaves c.loop-cond.cond-index _ c.loop-cond-test.true c.cond-item.is c.loop-cond.invariant _ c.in_err-leaf.ensures)

pub returns-in_default : goal.returns-in_default
returns-in_default c =
    making-none _ _ _ (condition_agrees (setting_in c.args.given.now) c.args.given.now.atoms.now c.args.args.now) c.args.conds.now c.loop-cond.leaves c.loop-cond.cond-index _ c.loop-cond-test.true c.cond-item.is c.loop-cond.invariant
    c.in_ok-leaf.ensures.0 (sym c.in_default.is ∙ c.in_ok-leaf.ensures.1)

pub loop-cond-preserved : goal.loop-cond-preserved
loop-cond-preserved c =
    making-next _ _ _ (condition_agrees (setting_in c.args.given.now) c.args.given.now.atoms.now c.args.args.now) c.args.conds.now c.loop-cond.leaves c.loop-cond.cond-index _ c.loop-cond-test.true c.cond-item.is c.loop-cond.invariant
    c.in-Some.leaf _ c.in_ok-leaf.ensures.0 (sym c.in-Some.is ∙ c.in_ok-leaf.ensures.1) c.in_ok-push.ensures.ok

pub returns : goal.returns
returns c = making-done _ _ _ (condition_agrees (setting_in c.args.given.now) c.args.given.now.atoms.now c.args.args.now) c.args.conds.now _ _ c.loop-cond-test.false c.loop-cond.invariant
