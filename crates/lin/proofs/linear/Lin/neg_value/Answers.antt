use Rattle.std.proofs.Common.{ap, sym, ◌∙◌, arith}
use Rattle.lin.specs.Negative.{negative}
use Rattle.rational.specs.Fraction.{neg_ℚ}
use Rattle.std.proofs.lemmas.Result.{err_from_is_err_and}
use lib.IntN.{pos}
use Rattle.rational.specs.Fraction.{whole}
use Rattle.lin.specs.Linear.{point_of}
use Rattle.lin.proofs.SumAnswers.{below_equal}
use Rattle.lin.proofs.Substituting.{variable_below, same_default}
use Rattle.lin.proofs.Evaluating.{evaluating-start, evaluating-mul_passes, evaluating-add_passes, evaluating-next, evaluating-done}
use Rattle.lin.proofs.Negatives.{negatives, terms-negative, constant-negative, next-negative, length-negatives}
use Rattle.lin.proofs.linear.Lin.neg_value.Goals as goal

pub loop-term-init : goal.loop-term-init
loop-term-init c =
    evaluating-start (point_of c.args.at.now) (negative c.args.self.now) (negatives c.all_terms-terms.result.now) _
    (ap negatives c.all_terms-terms.ensures.value ∙ sym (terms-negative c.args.self.now)) (c.neg-sum.ensures ∙ ap neg_ℚ c.constant-constant.ensures ∙ sym (constant-negative c.args.self.now))

pub bounds-at-term : goal.bounds-at-term
bounds-at-term c = variable_below _ _ _ _ (below_equal _ _ _ c.all_terms-terms.ensures.value c.requires) (record { within = c.loop-term-test.true; is = c.term-item.is })

pub returns-in_err-product : goal.returns-in_err-product
returns-in_err-product c =
    let b = variable_below _ _ _ _ (below_equal _ _ _ c.all_terms-terms.ensures.value c.requires) (record { within = c.loop-term-test.true; is = c.term-item.is }) in
    let p = err_from_is_err_and c.from_residual.result c.from_residual.ensures.1 in
    rw (p.1, p.2)
    (evaluating-mul_passes (point_of c.args.at.now) (negative c.args.self.now) _ _ _ _ (next-negative _ _ _ _ (record { within = c.loop-term-test.true; is = c.term-item.is }) c.neg-coefficient.ensures) c.loop-term.invariant _ _
    (same_default _ _ _ (whole (pos 0)) b c.index-at-term.is) c.in_err-product.ensures.0 c.in_err-product.ensures.1)

pub returns-in_err-sum : goal.returns-in_err-sum
returns-in_err-sum c =
    let b = variable_below _ _ _ _ (below_equal _ _ _ c.all_terms-terms.ensures.value c.requires) (record { within = c.loop-term-test.true; is = c.term-item.is }) in
    let p = err_from_is_err_and c.from_residual-in_err-sum.result c.from_residual-in_err-sum.ensures.1 in
    rw (p.1, p.2)
    (evaluating-add_passes (point_of c.args.at.now) (negative c.args.self.now) _ _ _ _ (next-negative _ _ _ _ (record { within = c.loop-term-test.true; is = c.term-item.is }) c.neg-coefficient.ensures) c.loop-term.invariant _ _ _
    (same_default _ _ _ (whole (pos 0)) b c.index-at-term.is) c.in_ok-product.ensures.0 c.in_ok-product.ensures.1 c.in_err-sum.ensures.0 c.in_err-sum.ensures.1)

pub loop-term-preserved : goal.loop-term-preserved
loop-term-preserved c =
    let b = variable_below _ _ _ _ (below_equal _ _ _ c.all_terms-terms.ensures.value c.requires) (record { within = c.loop-term-test.true; is = c.term-item.is }) in
    evaluating-next (point_of c.args.at.now) (negative c.args.self.now) _ _ _ _ (next-negative _ _ _ _ (record { within = c.loop-term-test.true; is = c.term-item.is }) c.neg-coefficient.ensures) c.loop-term.invariant _ _ _
    (same_default _ _ _ (whole (pos 0)) b c.index-at-term.is) c.in_ok-product.ensures.0 c.in_ok-product.ensures.1 c.in_ok-sum.ensures.0 c.in_ok-sum.ensures.1

pub returns : goal.returns
returns c =
    let l = length-negatives c.all_terms-terms.result.now in let n = c.loop-term-test.false in
    evaluating-done (point_of c.args.at.now) (negative c.args.self.now) (negatives c.all_terms-terms.result.now) _ c.loop-term.term-index (omega arith) c.loop-term.invariant
