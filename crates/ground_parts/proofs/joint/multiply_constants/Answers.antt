use Rattle.std.proofs.lemmas.Result.{err_from_is_err_and}
use Rattle.lin.specs.Operations.{multiplying}
use Rattle.ground_parts.specs.declared.part.Part.TheVariants.{Constant}
use Rattle.ground_parts.proofs.Making.{one_ok, one_err}
use Rattle.ground_parts.proofs.joint.multiply_constants.Goals as goal

pub returns-in_err-mul : goal.returns-in_err-mul
returns-in_err-mul c =
    let p = err_from_is_err_and c.from_residual.result c.from_residual.ensures.1 in
    rw (p.1, p.2) (one_err (multiplying c.args.a.now c.args.b.now) _ _ c.in_err-mul.ensures.0 c.in_err-mul.ensures.1)

pub returns : goal.returns
returns c = one_ok (multiplying c.args.a.now c.args.b.now) (λ x. Constant x) _ _ c.in_ok-mul.ensures.0 c.in_ok-mul.ensures.1
