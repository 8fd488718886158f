use Rattle.std.proofs.Common.{sym, ◌∙◌, Some, ap}
use Rattle.ground_parts.specs.Forms.{setting_in}
use Rattle.ground_draft.specs.inside.Assembly.{left_draft, left_ops}
use Rattle.ground_draft.proofs.Then.{some_answers}
use Rattle.ground_draft.proofs.Staging.{made_answers}
use Rattle.ground_draft.proofs.instance.made.Goals as goal

pub returns : goal.returns
returns c =
    made_answers (setting_in c.args.given.now) c.args.given.now.atoms.now c.args.action.now c.args.args.now c.as_slice-conds.result.now c.as_slice-effects.result.now c.left.result c.as_slice-conds.ensures c.as_slice-effects.ensures
    (some_answers (left_ops (setting_in c.args.given.now) c.args.given.now.atoms.now c.args.args.now c.as_slice-effects.result.now)
    (left_draft (setting_in c.args.given.now) c.args.given.now.atoms.now c.args.args.now c.as_slice-conds.result.now c.as_slice-effects.result.now) _ c.as_slice.result.now _ c.left.result
    (ap (λ l. Some l) c.as_slice.ensures ∙ sym c.in-Some.is ∙ c.in_ok-leaves.ensures.1) c.in_ok-leaves.ensures.0 c.left.ensures)
