use Rattle.std.proofs.lemmas.Result.{err_from_is_err_and}
use Rattle.lin.specs.Operations.{dividing}
use Rattle.ground_parts.specs.declared.part.Part.TheVariants.{Constant}
use Rattle.ground_parts.proofs.Making.{one_ok, one_err}
use Rattle.ground_parts.proofs.joint.divide_constants.Goals as goal

pub returns-in_err-div : goal.returns-in_err-div
returns-in_err-div c =
    let p = err_from_is_err_and c.from_residual.result c.from_residual.ensures.1 in
    rw (p.1, p.2) (one_err (dividing c.args.a.now c.args.by.now) _ _ c.in_err-div.ensures.0 c.in_err-div.ensures.1)

pub returns : goal.returns
returns c = one_ok (dividing c.args.a.now c.args.by.now) (λ x. Constant x) _ _ c.in_ok-div.ensures.0 c.in_ok-div.ensures.1
