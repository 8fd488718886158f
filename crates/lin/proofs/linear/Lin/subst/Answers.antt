use Rattle.std.proofs.lemmas.Result.{err_from_is_err_and}
use lib.IntN.{pos}
use Rattle.rational.specs.Fraction.{whole}
use Rattle.lin.specs.Linear.{fixed, replacement_of}
use Rattle.lin.proofs.SumAnswers.{below_equal}
use Rattle.lin.proofs.Substituting.{variable_below, same_default, substituting-start, substituting-scale_refused, substituting-add_refused, substituting-next, substituting-done}
use Rattle.lin.proofs.linear.Lin.subst.Goals as goal

pub loop-term-init : goal.loop-term-init
loop-term-init c = substituting-start _ _ _ _ _ c.all_terms-terms.ensures.value c.constant.ensures c.fixed-sum.ensures

pub bounds-of-term : goal.bounds-of-term
bounds-of-term c = variable_below _ _ _ _ (below_equal _ _ _ c.all_terms-terms.ensures.value c.requires) (record { within = c.loop-term-test.true; is = c.term-item.is })

pub returns-in_err-part : goal.returns-in_err-part
returns-in_err-part c =
    let b = variable_below _ _ _ _ (below_equal _ _ _ c.all_terms-terms.ensures.value c.requires) (record { within = c.loop-term-test.true; is = c.term-item.is }) in
    let p = err_from_is_err_and c.from_residual.result c.from_residual.ensures.1 in
    rw (p.1, p.2)
    (substituting-scale_refused (replacement_of c.args.of.now) c.args.self.now _ _ _ _ (record { within = c.loop-term-test.true; is = c.term-item.is }) c.loop-term.invariant _ c.index-of-term.result
    (same_default _ _ _ (fixed (whole (pos 0))) b c.index-of-term.is) c.in_err-part.ensures)

pub returns-in_err-sum : goal.returns-in_err-sum
returns-in_err-sum c =
    let b = variable_below _ _ _ _ (below_equal _ _ _ c.all_terms-terms.ensures.value c.requires) (record { within = c.loop-term-test.true; is = c.term-item.is }) in
    let p = err_from_is_err_and c.from_residual-in_err-sum.result c.from_residual-in_err-sum.ensures.1 in
    rw (p.1, p.2)
    (substituting-add_refused (replacement_of c.args.of.now) c.args.self.now _ c.loop-term.sum _ _ (record { within = c.loop-term-test.true; is = c.term-item.is }) c.loop-term.invariant _ c.index-of-term.result c.in_ok-part.part
    (same_default _ _ _ (fixed (whole (pos 0))) b c.index-of-term.is) c.in_ok-part.ensures.0 c.in_ok-part.ensures.1 c.in_err-sum.ensures)

pub loop-term-preserved : goal.loop-term-preserved
loop-term-preserved c =
    let b = variable_below _ _ _ _ (below_equal _ _ _ c.all_terms-terms.ensures.value c.requires) (record { within = c.loop-term-test.true; is = c.term-item.is }) in
    substituting-next (replacement_of c.args.of.now) c.args.self.now _ c.loop-term.sum _ _ (record { within = c.loop-term-test.true; is = c.term-item.is }) c.loop-term.invariant c.index-of-term.result c.in_ok-part.part _
    (same_default _ _ _ (fixed (whole (pos 0))) b c.index-of-term.is) c.in_ok-part.ensures.0 c.in_ok-part.ensures.1 c.in_ok-sum.ensures.0 c.in_ok-sum.ensures.1

pub returns : goal.returns
returns c = substituting-done (replacement_of c.args.of.now) c.args.self.now _ _ _ c.loop-term-test.false c.loop-term.invariant
