use Rattle.std.proofs.lemmas.Result.{err_from_is_err_and}
use Rattle.encode_rows.proofs.BeginningLaws.{own-below, happens-makes, happens-stops}
use Rattle.encode_rows.proofs.beginning.happens.Goals as goal

pub literal_of-requires : goal.literal_of-requires
literal_of-requires c = own-below c.args.c _ c.in_ok-own.own c.in_ok-own.ensures c.requires

pub returns-in_err-literal : goal.returns-in_err-literal
returns-in_err-literal c =
    let p = err_from_is_err_and c.from_residual-in_err-literal.result c.from_residual-in_err-literal.ensures.1 in
    rw (p.1, p.2) (happens-stops c.args.formula.now c.literal_of.new.formula c.args.c c.in_ok-own.own c.in_err-literal.field-0.0 c.in_ok-own.ensures c.in_err-literal.ensures)

pub returns : goal.returns
returns c = happens-makes c.args.formula.now c.literal_of.new.formula c.args.c c.in_ok-own.own c.in_ok-literal.literal c.opposite.result c.in_ok-own.ensures c.in_ok-literal.ensures c.opposite.ensures
