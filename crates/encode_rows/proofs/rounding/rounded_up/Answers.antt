use Rattle.std.proofs.Common.{◌∷◌, [], subst}
use Rattle.std.proofs.lemmas.Result.{err_from_is_err_and}
use lib.IntN.{pos}
use Rattle.rational.specs.Fraction.{Fraction, whole}
use Rattle.rational.specs.Floor.{ceil_of}
use Rattle.lin.specs.Operations.{AllFit, IsFirstPassing, adding}
use Rattle.encode_laws.specs.Refusals.{subtracting}
use Rattle.encode_rows.proofs.Passing.{passes-before, passes-behind}
use Rattle.encode_rows.proofs.RoundingLaws.{one_less}
use Rattle.encode_rows.proofs.rounding.rounded_up.Goals as goal

pub returns-in_err-k : goal.returns-in_err-k
returns-in_err-k c =
    let p = err_from_is_err_and c.from_residual.result c.from_residual.ensures.1 in
    rw (p.1, p.2) (passes-before (subtracting (whole (ceil_of c.args.b.now)) (whole (pos 1)) ∷ []) _ c.in_err-k.field-0.0 (subst (λ (x : Fraction). IsFirstPassing c.in_err-k.field-0.0 (subtracting x (whole (pos 1)) ∷ [])) c.ceiling.ensures c.in_err-k.ensures))

pub returns-in_err-_next : goal.returns-in_err-_next
returns-in_err-_next c =
    let p = err_from_is_err_and c.from_residual-in_err-_next.result c.from_residual-in_err-_next.ensures.1 in
    rw (p.1, p.2)
    (passes-behind (subtracting (whole (ceil_of c.args.b.now)) (whole (pos 1)) ∷ []) _ _ (subst (λ (x : Fraction). AllFit (subtracting x (whole (pos 1)) ∷ [])) c.ceiling.ensures c.in_ok-k.ensures.0)
    (subst (λ (x : Fraction). IsFirstPassing c.in_err-_next.field-0.0 (adding x (whole (pos 1)) ∷ [])) (one_less c.args.b.now c.ceiling.result c.in_ok-k.k c.ceiling.ensures c.in_ok-k.ensures.1) c.in_err-_next.ensures))

pub returns : goal.returns
returns c =
    let k = one_less c.args.b.now c.ceiling.result c.in_ok-k.k c.ceiling.ensures c.in_ok-k.ensures.1 in (
      (
        (subst (λ (x : Fraction). AllFit (subtracting x (whole (pos 1)) ∷ [])) c.ceiling.ensures c.in_ok-k.ensures.0).0,
        subst (λ (x : Fraction). AllFit (adding x (whole (pos 1)) ∷ [])) k c.in_ok-_next.ensures.0,
      ),
      k,
      c.in_ok-_next.ensures.1,
    )
