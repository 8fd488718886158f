use Rattle.std.proofs.lemmas.Result.{err_from_is_err_and}
use Rattle.pattern.proofs.Growing.{sub_passes, mul_passes, add_answers}
use Rattle.pattern.proofs.rolling.grow.Goals as goal

pub returns-in_err-before : goal.returns-in_err-before
returns-in_err-before c =
    let p = err_from_is_err_and c.from_residual.result c.from_residual.ensures.1 in
    rw (p.1, p.2) (sub_passes c.args.count.now c.args.so_far.now c.args.amount.now _ c.in_err-before.ensures)

pub returns-in_err-growth : goal.returns-in_err-growth
returns-in_err-growth c =
    let p = err_from_is_err_and c.from_residual-in_err-growth.result c.from_residual-in_err-growth.ensures.1 in
    rw (p.1, p.2) (mul_passes c.args.count.now c.args.so_far.now c.args.amount.now _ _ c.in_ok-before.ensures c.in_err-growth.ensures)

pub returns : goal.returns
returns c = add_answers c.args.count.now c.args.so_far.now c.args.amount.now _ _ c.add.result c.in_ok-before.ensures c.in_ok-growth.ensures c.add.ensures
