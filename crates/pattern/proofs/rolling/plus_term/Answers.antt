use Rattle.std.proofs.lemmas.Result.{err_from_is_err_and}
use lib.IntN.{pos}
use Rattle.rational.specs.Fraction.{whole}
use Rattle.lin.specs.Linear.{point_of}
use Rattle.lin.proofs.Substituting.{same_default}
use Rattle.pattern.proofs.Growing.{term-value_passes, term-value, term-mul_passes, term-answers}
use Rattle.pattern.proofs.rolling.plus_term.Goals as goal

pub returns-in_err-value : goal.returns-in_err-value
returns-in_err-value c =
    let p = err_from_is_err_and c.from_residual.result c.from_residual.ensures.1 in
    rw (p.1, p.2)
    (term-value_passes c.args.incs.now c.args.count.now (point_of c.args.values.now) c.args.so_far.now c.args.term.now c.index-values-term.result _
    (same_default _ _ _ (whole (pos 0)) c.requires c.index-values-term.is) c.in_err-value.ensures)

pub returns-in_err-product : goal.returns-in_err-product
returns-in_err-product c =
    let p = err_from_is_err_and c.from_residual-in_err-product.result c.from_residual-in_err-product.ensures.1 in
    rw (p.1, p.2)
    (term-mul_passes c.args.incs.now c.args.count.now (point_of c.args.values.now) c.args.so_far.now c.args.term.now _ _
    (term-value c.args.incs.now c.args.count.now (point_of c.args.values.now) c.args.so_far.now c.args.term.now c.index-values-term.result _
    (same_default _ _ _ (whole (pos 0)) c.requires c.index-values-term.is) c.in_ok-value.ensures) c.in_err-product.ensures)

pub returns : goal.returns
returns c =
    term-answers c.args.incs.now c.args.count.now (point_of c.args.values.now) c.args.so_far.now c.args.term.now _ _ c.add.result
    (term-value c.args.incs.now c.args.count.now (point_of c.args.values.now) c.args.so_far.now c.args.term.now c.index-values-term.result _
    (same_default _ _ _ (whole (pos 0)) c.requires c.index-values-term.is) c.in_ok-value.ensures) c.in_ok-product.ensures c.add.ensures
