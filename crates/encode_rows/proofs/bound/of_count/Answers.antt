use Rattle.std.proofs.Common.{◌∙◌, Bool, ◌∷◌, [], ap, subst, refl}
use Rattle.std.proofs.lemmas.Result.{err_from_is_err_and}
use Rattle.rational.specs.Fraction.{Fraction, neg_ℚ, inv_ℚ, ◌*ℚ◌}
use Rattle.frac128.specs.Operations.{Fits}
use Rattle.frac128.specs.declared.operations.Op.TheVariants.{Div}
use Rattle.lin.specs.Operations.{IsFirstPassing, dividing}
use Rattle.encode_laws.specs.Refusals.{rounding_ops}
use Rattle.encode_rows.specs.Bounds.{rounds_down}
use Rattle.encode_rows.proofs.Passing.{passes-first, passes-behind}
use Rattle.encode_rows.proofs.bound.of_count.Goals as goal

pub returns-in_err-quotient : goal.returns-in_err-quotient
returns-in_err-quotient c =
    let p = err_from_is_err_and c.from_residual.result c.from_residual.ensures.1 in
    rw (p.1, p.2) (passes-first Div (neg_ℚ c.args.k.now) c.args.a.now _ _ _ _ c.neg.ensures refl c.in_err-quotient.ensures.0 c.in_err-quotient.ensures.1)

pub returns-in_err-bound : goal.returns-in_err-bound
returns-in_err-bound c =
    let p = err_from_is_err_and c.from_residual-in_err-bound.result c.from_residual-in_err-bound.ensures.1 in
    let b = c.in_ok-quotient.ensures.1 ∙ ap (λ (x : Fraction). x *ℚ inv_ℚ c.args.a.now) c.neg.ensures in
    rw (p.1, p.2)
    (passes-behind (dividing (neg_ℚ c.args.k.now) c.args.a.now ∷ []) _ _ (subst (λ (x : Fraction). Fits Div x c.args.a.now) c.neg.ensures c.in_ok-quotient.ensures.0, tt)
    (subst (λ (x : Fraction). IsFirstPassing c.in_err-bound.field-0.0 (rounding_ops (rounds_down c.args.strict c.args.a.now) x)) b (subst (λ (d : Bool). IsFirstPassing c.in_err-bound.field-0.0 (rounding_ops d c.in_ok-quotient.quotient)) c.rounds_down.ensures c.in_err-bound.ensures)))
