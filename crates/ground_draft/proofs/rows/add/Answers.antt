use Rattle.ground_draft.proofs.Forming.{one_answers}
use Rattle.ground_draft.proofs.rows.add.Goals as goal

pub returns : goal.returns
returns c = one_answers _ _ _ c.add.ensures
