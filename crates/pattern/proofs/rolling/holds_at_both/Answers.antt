use Rattle.std.proofs.lemmas.Result.{err_from_is_err_and}
use Rattle.pattern.proofs.Growing.{passes_after}
use Rattle.pattern.proofs.rolling.holds_at_both.Goals as goal

pub returns-in_err-last : goal.returns-in_err-last
returns-in_err-last c =
    let p = err_from_is_err_and c.from_residual-in_err-last.result c.from_residual-in_err-last.ensures.1 in
    rw (p.1, p.2) (passes_after _ _ _ c.in_ok-first.ensures.0 c.in_err-last.ensures)
