use Rattle.std.proofs.lemmas.Result.{err_from_is_err_and}
use Rattle.encode_rows.proofs.beginning.begin_named.Goals as goal

pub returns-in_err-boolean : goal.returns-in_err-boolean
returns-in_err-boolean c =
    let p = err_from_is_err_and c.from_residual.result c.from_residual.ensures.1 in
    rw (p.1, p.2) (λ m n s k. ((c.in_err-boolean.ensures m n s k).0, tt))
