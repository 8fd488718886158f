use Rattle.ground_parts.specs.Forms.{setting_in}
use Rattle.ground_draft.proofs.Both.{change_answers}
use Rattle.ground_draft.proofs.moves.effect_move.Goals as goal

pub returns-in-Change : goal.returns-in-Change
returns-in-Change c = change_answers (setting_in c.args.given.now) c.args.given.now.atoms.now c.args.args.now _ _ _ _ _ _ _ c.in-Change.is c.as_slice-in-Change.ensures c.change.ensures
