use Rattle.std.proofs.Common.{ap}
use Rattle.std.proofs.lemmas.Result.{err_from_is_err_and}
use Rattle.ground_parts.specs.declared.comparison.Compared.TheVariants.{Left}
use Rattle.ground_parts.proofs.comparison.against.Goals as goal

pub returns-in_err-difference : goal.returns-in_err-difference
returns-in_err-difference c =
    let p = err_from_is_err_and c.from_residual.result c.from_residual.ensures.1 in
    rw (p.1, p.2) c.in_err-difference.ensures

pub returns : goal.returns
returns c = (c.in_ok-difference.ensures.0, ap (λ l. Left l c.args.cmp) c.in_ok-difference.ensures.1)
