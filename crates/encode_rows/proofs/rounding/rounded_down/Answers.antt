use Rattle.std.proofs.Common.{◌∷◌, [], subst}
use Rattle.std.proofs.lemmas.Result.{err_from_is_err_and}
use lib.IntN.{pos}
use Rattle.rational.specs.Fraction.{Fraction, whole}
use Rattle.lin.specs.Operations.{AllFit, IsFirstPassing, adding}
use Rattle.encode_rows.proofs.rounding.rounded_down.Goals as goal

pub returns-in_err-_next : goal.returns-in_err-_next
returns-in_err-_next c =
    let p = err_from_is_err_and c.from_residual.result c.from_residual.ensures.1 in
    rw (p.1, p.2) (subst (λ (x : Fraction). IsFirstPassing c.in_err-_next.field-0.0 (adding x (whole (pos 1)) ∷ [])) c.floor-k.ensures c.in_err-_next.ensures)

pub returns : goal.returns
returns c = (subst (λ (x : Fraction). AllFit (adding x (whole (pos 1)) ∷ [])) c.floor-k.ensures c.in_ok-_next.ensures.0, c.floor-k.ensures, c.in_ok-_next.ensures.1)
