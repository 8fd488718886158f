use Rattle.std.specs.Prelude.{Ok, Err}
use Rattle.std.proofs.lemmas.Result.{err_from_is_err_and}
use Rattle.encode_rows.proofs.ChangeLaws.{added-rows, added-makes, added-stop, added-unnamed, added-rows-are, puts-added}
use Rattle.encode_rows.proofs.change.choose_added.Goals as goal

pub put_rows-requires : goal.put_rows-requires
put_rows-requires c =
    added-rows-are c.name.new.formula c.args.on c.args.t c.in_ok-boolean.boolean c.opposite.result c.opposite-2.result c.opposite-3.result c.opposite.ensures c.opposite-2.ensures c.opposite-3.ensures
    (added-rows c.args.formula.now c.name.new.formula c.args.on c.args.t c.in_ok-boolean.boolean c.in_ok-boolean.ensures c.requires)

pub returns-in_err-boolean : goal.returns-in_err-boolean
returns-in_err-boolean c =
    let p = err_from_is_err_and c.from_residual.result c.from_residual.ensures.1 in
    rw (p.1, p.2) (added-unnamed c.args.formula.now c.name.new.formula c.args.on c.args.t c.in_err-boolean.field-0.0 c.in_err-boolean.ensures)

pub returns-in_err-put_rows : goal.returns-in_err-put_rows
returns-in_err-put_rows c =
    let p = err_from_is_err_and c.from_residual-in_err-put_rows.result c.from_residual-in_err-put_rows.ensures.1 in
    rw (p.1, p.2)
    (added-stop c.args.formula.now c.name.new.formula c.args.on c.args.t c.in_ok-boolean.boolean c.in_ok-boolean.ensures c.put_rows.new.formula (Unit {0}) c.in_err-put_rows.field-0.0
    (puts-added c.name.new.formula c.args.on c.args.t c.in_ok-boolean.boolean c.opposite.result c.opposite-2.result c.opposite-3.result c.opposite.ensures c.opposite-2.ensures c.opposite-3.ensures (Unit {0}) c.put_rows.new.formula (Err c.in_err-put_rows.field-0.0) c.in_err-put_rows.ensures))

pub returns : goal.returns
returns c =
    added-makes c.args.formula.now c.name.new.formula c.args.on c.args.t c.in_ok-boolean.boolean c.in_ok-boolean.ensures c.put_rows.new.formula (Unit {0}) tt
    (puts-added c.name.new.formula c.args.on c.args.t c.in_ok-boolean.boolean c.opposite.result c.opposite-2.result c.opposite-3.result c.opposite.ensures c.opposite-2.ensures c.opposite-3.ensures (Unit {0}) c.put_rows.new.formula (Ok tt) c.in_ok-put_rows.ensures)
