use Rattle.std.proofs.Common.{◌∙◌, ◌++◌, ap, subst, refl}
use Rattle.std.proofs.lemmas.Result.{err_from_is_err_and}
use Rattle.rational.specs.Fraction.{neg_ℚ}
use Rattle.frac128.specs.declared.operations.Op.TheVariants.{Div}
use Rattle.lin.specs.Linear.{Linear, fixed, add}
use Rattle.lin.specs.Operations.{AllFit, IsRefusal}
use Rattle.lin.specs.Made.{add_ops, div_ops}
use Rattle.encode_rows.proofs.Passing.{passes-first, passes-behind, refused-before}
use Rattle.encode_rows.proofs.bound.of_linear.Goals as goal

pub returns-in_err-lin : goal.returns-in_err-lin
returns-in_err-lin c =
    let p = err_from_is_err_and c.from_residual.result c.from_residual.ensures.1 in
    let m = c.fixed.ensures ∙ ap fixed (c.neg-k.ensures ∙ ap neg_ℚ c.constant.ensures) in
    rw (p.1, p.2)
    (refused-before _ _ _ (subst (λ (w : Linear). IsRefusal (add_ops c.args.l.now w ++ div_ops c.args.a.now (add c.args.l.now w)) c.in_err-lin.field-0.0) m c.in_err-lin.ensures))

pub returns-in_err-bound : goal.returns-in_err-bound
returns-in_err-bound c =
    let p = err_from_is_err_and c.from_residual-in_err-bound.result c.from_residual-in_err-bound.ensures.1 in
    let k = c.neg-k.ensures ∙ ap neg_ℚ c.constant.ensures in
    let m = c.fixed.ensures ∙ ap fixed k in
    rw (p.1, p.2)
    (passes-behind _ _ _ (subst (λ (w : Linear). AllFit (add_ops c.args.l.now w ++ div_ops c.args.a.now (add c.args.l.now w))) m c.in_ok-lin.ensures.0)
    (passes-first Div (neg_ℚ c.args.l.now.constant) c.args.a.now _ _ _ _ k refl c.in_err-bound.ensures.0 c.in_err-bound.ensures.1))
