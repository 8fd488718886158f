use Rattle.std.proofs.lemmas.Result.{err_from_is_err_and}
use Rattle.ground_parts.specs.declared.part.Part.TheVariants.{Linear}
use Rattle.ground_parts.proofs.Making.{many_ok, refusal_fails}
use Rattle.ground_parts.proofs.joint.scale_linear.Goals as goal

pub returns-in_err-scale : goal.returns-in_err-scale
returns-in_err-scale c =
    let p = err_from_is_err_and c.from_residual.result c.from_residual.ensures.1 in
    rw (p.1, p.2) (refusal_fails _ _ _ c.in_err-scale.ensures)

pub returns : goal.returns
returns c = many_ok _ (λ l. Linear l) _ _ c.in_ok-scale.ensures.0 c.in_ok-scale.ensures.1
