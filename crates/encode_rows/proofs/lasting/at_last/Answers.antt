use Rattle.std.proofs.Common.{◌∙◌, ap}
use Rattle.std.specs.Prelude.{Ok, Err}
use Rattle.std.proofs.lemmas.Result.{err_from_is_err_and}
use Rattle.lin.specs.Linear.{fixed}
use Rattle.encode_rows.proofs.LastingLaws.{last-refused-1, last-refused-2, last-made}
use Rattle.encode_rows.proofs.lasting.at_last.Goals as goal

pub returns-in_err-growth : goal.returns-in_err-growth
returns-in_err-growth c =
    let p = err_from_is_err_and c.from_residual-in_err-growth.result c.from_residual-in_err-growth.ensures.1 in
    rw (p.1, p.2) (last-refused-1 c.args.d.now c.args.c c.args.l.now c.in_ok-own.own c.in_ok-own.ensures c.in_err-growth.field-0.0 c.in_err-growth.ensures)

pub returns-in_err-grown : goal.returns-in_err-grown
returns-in_err-grown c =
    let p = err_from_is_err_and c.from_residual-in_err-grown.result c.from_residual-in_err-grown.ensures.1 in
    rw (p.1, p.2)
    (last-refused-2 c.args.d.now c.args.c c.args.l.now c.in_ok-own.own c.in_ok-own.ensures c.in_ok-growth.growth c.in_ok-growth.ensures c.in_err-grown.field-0.0 c.in_err-grown.ensures)

pub returns-in_err-last : goal.returns-in_err-last
returns-in_err-last c =
    let p = err_from_is_err_and c.from_residual-in_err-last.result c.from_residual-in_err-last.ensures.1 in
    rw (p.1, p.2)
    (last-made c.args.d.now c.args.c c.args.l.now c.in_ok-own.own c.in_ok-own.ensures c.in_ok-growth.growth c.in_ok-growth.ensures c.in_ok-grown.grown c.fixed.result (Err c.in_err-last.field-0.0) c.in_ok-grown.ensures
    (c.fixed.ensures ∙ ap fixed c.neg.ensures) c.in_err-last.ensures)

pub returns : goal.returns
returns c =
    last-made c.args.d.now c.args.c c.args.l.now c.in_ok-own.own c.in_ok-own.ensures c.in_ok-growth.growth c.in_ok-growth.ensures c.in_ok-grown.grown c.fixed.result (Ok c.in_ok-last.last) c.in_ok-grown.ensures
    (c.fixed.ensures ∙ ap fixed c.neg.ensures) c.in_ok-last.ensures
