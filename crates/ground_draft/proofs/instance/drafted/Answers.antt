use Rattle.std.proofs.lemmas.Result.{err_from_is_err_and}
use Rattle.ground_draft.proofs.Both.{refused_behind}
use Rattle.ground_draft.proofs.instance.drafted.Goals as goal

pub returns-in_err-rows : goal.returns-in_err-rows
returns-in_err-rows c =
    let p = err_from_is_err_and c.from_residual-in_err-rows.result c.from_residual-in_err-rows.ensures.1 in
    rw (p.1, p.2) (refused_behind _ _ _ c.in_ok-cmps.ensures.0 c.in_err-rows.ensures)
