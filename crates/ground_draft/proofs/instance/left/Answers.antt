use Rattle.std.proofs.Common.{sym, ◌∙◌, Some, ap}
use Rattle.ground_parts.specs.Forms.{setting_in}
use Rattle.ground_draft.specs.inside.Assembly.{moved_ops, moved_draft}
use Rattle.ground_draft.proofs.Then.{some_answers}
use Rattle.ground_draft.proofs.instance.left.Goals as goal

pub returns : goal.returns
returns c =
    some_answers (moved_ops c.args.leaves.now) (moved_draft (setting_in c.args.given.now) c.args.args.now c.args.conds.now c.args.effects.now c.args.leaves.now) _ c.as_slice.result.now _ c.held.result
    (ap (λ m. Some m) c.as_slice.ensures ∙ sym c.in-Some.is ∙ c.in_ok-moves.ensures.1) c.in_ok-moves.ensures.0 c.held.ensures
