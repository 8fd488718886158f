use Rattle.std.proofs.Common.{◌∙◌, sym}
use Rattle.std.proofs.lemmas.Result.{err_from_is_err_and}
use Rattle.encode_rows.proofs.LastingLaws.{amount-zero, amount-passes, amount-added}
use Rattle.encode_rows.proofs.lasting.add_amount.Goals as goal

pub returns-then-is_zero : goal.returns-then-is_zero
returns-then-is_zero c = amount-zero c.args.sum.now c.args.coefficient.now c.args.amount.now (sym c.is_zero.ensures ∙ c.if-is_zero.true)

pub returns-in_err-product : goal.returns-in_err-product
returns-in_err-product c =
    let p = err_from_is_err_and c.from_residual.result c.from_residual.ensures.1 in
    rw (p.1, p.2) (amount-passes c.args.sum.now c.args.coefficient.now c.args.amount.now c.in_err-product.field-0.0 (sym c.is_zero.ensures ∙ c.if-is_zero.false) c.in_err-product.ensures)

pub returns : goal.returns
returns c =
    amount-added c.args.sum.now c.args.coefficient.now c.args.amount.now c.in_ok-product.product c.add.result (sym c.is_zero.ensures ∙ c.if-is_zero.false) c.in_ok-product.ensures c.add.ensures
