use Rattle.std.proofs.Common.{sym, ◌∙◌}
use Rattle.std.proofs.lemmas.Result.{err_from_is_err_and}
use Rattle.ground_parts.specs.Forms.{setting_in}
use Rattle.ground_draft.proofs.Both.{none_left, refused_right}
use Rattle.ground_draft.proofs.leaves.sides.Goals as goal

pub returns-in_default : goal.returns-in_default
returns-in_default c = none_left (setting_in c.args.given.now) c.args.args.now c.args.rel c.args.left.now c.args.right.now c.in_ok-left.ensures.0 (sym c.in_default.is ∙ c.in_ok-left.ensures.1)

pub returns-in_err-right : goal.returns-in_err-right
returns-in_err-right c =
    let p = err_from_is_err_and c.from_residual-in_err-right.result c.from_residual-in_err-right.ensures.1 in
    rw (p.1, p.2) (refused_right (setting_in c.args.given.now) c.args.args.now c.args.rel c.args.left.now c.args.right.now c.in-Some.left c.in_ok-left.ensures.0 (sym c.in-Some.is ∙ c.in_ok-left.ensures.1) _ c.in_err-right.ensures)
