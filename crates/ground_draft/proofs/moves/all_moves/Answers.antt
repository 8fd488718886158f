use Rattle.std.proofs.Common.{sym, ◌∙◌}
use Rattle.std.proofs.lemmas.Result.{err_from_is_err_and}
use Rattle.ground_parts.specs.Forms.{setting_in}
use Rattle.ground_draft.proofs.Loops.{making-start, making-refused, making-next, making-none, making-done}
use Rattle.ground_draft.proofs.Whole.{effect_agrees}
use Rattle.ground_draft.proofs.moves.all_moves.Goals as goal

pub loop-effect-init : goal.loop-effect-init
loop-effect-init c =
    making-start _ _ _ (effect_agrees (setting_in c.args.given.now) c.args.given.now.atoms.now c.args.args.now) c.args.effects.now _ c.new-moves.ensures

pub returns-in_err-next : goal.returns-in_err-next
returns-in_err-next c =
    let p = err_from_is_err_and c.from_residual.result c.from_residual.ensures.1 in
    rw (p.1, p.2) (making-refused _ _ _ (effect_agrees (setting_in c.args.given.now) c.args.given.now.atoms.now c.args.args.now) c.args.effects.now c.loop-effect.moves c.loop-effect.effect-index _ c.loop-effect-test.true c.effect-item.is c.loop-effect.invariant _ c.in_err-next.ensures)

pub returns-in_default : goal.returns-in_default
returns-in_default c =
    making-none _ _ _ (effect_agrees (setting_in c.args.given.now) c.args.given.now.atoms.now c.args.args.now) c.args.effects.now c.loop-effect.moves c.loop-effect.effect-index _ c.loop-effect-test.true c.effect-item.is c.loop-effect.invariant
    c.in_ok-next.ensures.0 (sym c.in_default.is ∙ c.in_ok-next.ensures.1)

pub loop-effect-preserved : goal.loop-effect-preserved
loop-effect-preserved c =
    making-next _ _ _ (effect_agrees (setting_in c.args.given.now) c.args.given.now.atoms.now c.args.args.now) c.args.effects.now c.loop-effect.moves c.loop-effect.effect-index _ c.loop-effect-test.true c.effect-item.is c.loop-effect.invariant
    c.in-Some.next _ c.in_ok-next.ensures.0 (sym c.in-Some.is ∙ c.in_ok-next.ensures.1) c.in_ok-push.ensures.ok

pub returns : goal.returns
returns c = making-done _ _ _ (effect_agrees (setting_in c.args.given.now) c.args.given.now.atoms.now c.args.args.now) c.args.effects.now _ _ c.loop-effect-test.false c.loop-effect.invariant
