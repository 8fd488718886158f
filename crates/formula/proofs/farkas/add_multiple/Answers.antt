use Rattle.std.proofs.lemmas.Result.{err_from_is_err_and}
use Rattle.formula.proofs.FarkasSteps.{left_refused, product_passes, right_passes, multiple_done}
use Rattle.formula.proofs.farkas.add_multiple.Goals as goal

pub returns-in_err-left : goal.returns-in_err-left
returns-in_err-left c =
    let p = err_from_is_err_and c.from_residual-in_err-left.result c.from_residual-in_err-left.ensures.1 in
    rw (p.1, p.2) (left_refused c.args.sum.now c.args.bound.now c.args.more.now c.args.by.now c.in_ok-part.part c.in_ok-part.ensures.0 c.in_ok-part.ensures.1 _ c.in_err-left.ensures)

pub returns-in_err-product : goal.returns-in_err-product
returns-in_err-product c =
    let p = err_from_is_err_and c.from_residual-in_err-product.result c.from_residual-in_err-product.ensures.1 in
    rw (p.1, p.2)
    (product_passes c.args.sum.now c.args.bound.now c.args.more.now c.args.by.now c.in_ok-part.part c.in_ok-part.ensures.0 c.in_ok-part.ensures.1 c.in_ok-left.left c.in_ok-left.ensures.0
    c.in_ok-left.ensures.1 _ c.in_err-product.ensures.0 c.in_err-product.ensures.1)

pub returns-in_err-right : goal.returns-in_err-right
returns-in_err-right c =
    let p = err_from_is_err_and c.from_residual-in_err-right.result c.from_residual-in_err-right.ensures.1 in
    rw (p.1, p.2)
    (right_passes c.args.sum.now c.args.bound.now c.args.more.now c.args.by.now c.in_ok-part.part c.in_ok-part.ensures.0 c.in_ok-part.ensures.1 c.in_ok-left.left c.in_ok-left.ensures.0
    c.in_ok-left.ensures.1 _ c.in_ok-product.ensures.0 c.in_ok-product.ensures.1 _ c.in_err-right.ensures.0 c.in_err-right.ensures.1)

pub returns : goal.returns
returns c =
    multiple_done c.args.sum.now c.args.bound.now c.args.more.now c.args.by.now c.in_ok-part.part c.in_ok-part.ensures.0 c.in_ok-part.ensures.1 c.in_ok-left.left c.in_ok-left.ensures.0
    c.in_ok-left.ensures.1 _ c.in_ok-product.ensures.0 c.in_ok-product.ensures.1 _ c.in_ok-right.ensures.0 c.in_ok-right.ensures.1
