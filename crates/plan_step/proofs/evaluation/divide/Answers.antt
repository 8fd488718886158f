use Rattle.std.proofs.Common.{◌∙◌, sym}
use Rattle.std.proofs.lemmas.Result.{err_from_is_err_and}
use Rattle.plan_step.proofs.Operations.{by_division, by_wide_division}
use Rattle.plan_step.proofs.evaluation.divide.Goals as goal

pub returns : goal.returns
returns c = by_division _ _ _ (sym c.is_zero.ensures ∙ c.if-is_zero.false) c.in_ok-div.ensures

pub returns-in_err-div : goal.returns-in_err-div
returns-in_err-div c =
    let p = err_from_is_err_and c.from_residual.result c.from_residual.ensures.1 in
    rw (p.1, p.2) (by_wide_division _ _ _ (sym c.is_zero.ensures ∙ c.if-is_zero.false) c.in_err-div.ensures)
