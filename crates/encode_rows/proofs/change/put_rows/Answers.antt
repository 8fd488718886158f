use Rattle.std.proofs.lemmas.Result.{err_from_is_err_and}
use Rattle.encode_rows.proofs.ChangeLaws.{first-of-rows, rows-later, turn-rows, rows-stop, rows-stop-2, rows-makes}
use Rattle.encode_rows.proofs.change.put_rows.Goals as goal

pub put_row-requires : goal.put_row-requires
put_row-requires c = first-of-rows c.args.formula.now c.args.first.now c.args.second.now c.args.third.now c.requires

pub put_row-requires-2 : goal.put_row-requires-2
put_row-requires-2 c =
    first-of-rows c.put_row.new.formula c.args.second.now c.args.third.now c.args.first.now
    (turn-rows c.put_row.new.formula c.args.first.now c.args.second.now c.args.third.now
    (rows-later c.args.formula.now c.put_row.new.formula c.args.first.now c.args.second.now c.args.third.now (Unit {0}) tt c.in_ok-put_row.ensures c.requires))

pub put_row-requires-3 : goal.put_row-requires-3
put_row-requires-3 c =
    first-of-rows c.put_row-2.new.formula c.args.third.now c.args.first.now c.args.second.now
    (turn-rows c.put_row-2.new.formula c.args.second.now c.args.third.now c.args.first.now
    (rows-later c.put_row.new.formula c.put_row-2.new.formula c.args.second.now c.args.third.now c.args.first.now (Unit {0}) tt c.in_ok-put_row-2.ensures
    (turn-rows c.put_row.new.formula c.args.first.now c.args.second.now c.args.third.now
    (rows-later c.args.formula.now c.put_row.new.formula c.args.first.now c.args.second.now c.args.third.now (Unit {0}) tt c.in_ok-put_row.ensures c.requires))))

pub returns-in_err-put_row : goal.returns-in_err-put_row
returns-in_err-put_row c =
    let p = err_from_is_err_and c.from_residual.result c.from_residual.ensures.1 in
    rw (p.1, p.2) (rows-stop c.args.formula.now c.put_row.new.formula c.args.first.now c.args.second.now c.args.third.now (Unit {0}) (Unit {0}) c.in_err-put_row.field-0.0 c.in_err-put_row.ensures)

pub returns-in_err-put_row-2 : goal.returns-in_err-put_row-2
returns-in_err-put_row-2 c =
    let p = err_from_is_err_and c.from_residual-in_err-put_row-2.result c.from_residual-in_err-put_row-2.ensures.1 in
    rw (p.1, p.2)
    (rows-stop-2 c.args.formula.now c.put_row.new.formula c.args.first.now c.args.second.now c.args.third.now c.put_row-2.new.formula (Unit {0}) (Unit {0}) tt c.in_err-put_row-2.field-0.0
    c.in_ok-put_row.ensures c.in_err-put_row-2.ensures)

pub returns : goal.returns
returns c =
    rows-makes c.args.formula.now c.put_row.new.formula c.args.first.now c.args.second.now c.args.third.now c.put_row-2.new.formula c.put_row-3.new.formula (Unit {0}) tt tt c.put_row-3.result
    c.in_ok-put_row.ensures c.in_ok-put_row-2.ensures c.put_row-3.ensures
