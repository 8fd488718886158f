use Rattle.std.proofs.lemmas.Result.{err_from_is_err_and}
use Rattle.encode_rows.proofs.BeginningLaws.{bound-row, bound-makes, bound-stops}
use Rattle.encode_rows.proofs.beginning.put_bound.Goals as goal

pub put_row-requires : goal.put_row-requires
put_row-requires c = bound-row c.args.formula.now c.literal_of.new.formula c.args.pos c.args.l.now c.in_ok-literal.literal c.signed.result c.requires.standing c.in_ok-literal.ensures c.signed.ensures

pub returns-in_err-literal : goal.returns-in_err-literal
returns-in_err-literal c =
    let p = err_from_is_err_and c.from_residual.result c.from_residual.ensures.1 in
    rw (p.1, p.2) (bound-stops c.args.formula.now c.literal_of.new.formula c.args.pos c.args.l.now (Unit {0}) c.in_err-literal.field-0.0 c.in_err-literal.ensures)

pub returns : goal.returns
returns c =
    bound-makes c.args.formula.now c.literal_of.new.formula c.args.pos c.args.l.now c.put_row.new.formula c.in_ok-literal.literal c.signed.result c.put_row.result
    c.in_ok-literal.ensures c.signed.ensures c.put_row.ensures
