use Rattle.std.specs.Prelude.{Ok, Err}
use Rattle.std.proofs.lemmas.Result.{err_from_is_err_and}
use Rattle.encode_rows.proofs.ChangeLaws.{deleted-rows, deleted-makes, deleted-stop, deleted-unnamed, deleted-rows-are, puts-deleted}
use Rattle.encode_rows.proofs.change.choose_deleted.Goals as goal

pub put_rows-requires : goal.put_rows-requires
put_rows-requires c =
    deleted-rows-are c.name.new.formula c.args.on c.args.t c.in_ok-boolean.boolean c.opposite.result c.opposite-2.result c.opposite-3.result c.opposite-4.result c.opposite.ensures c.opposite-2.ensures c.opposite-3.ensures c.opposite-4.ensures
    (deleted-rows c.args.formula.now c.name.new.formula c.args.on c.args.t c.in_ok-boolean.boolean c.in_ok-boolean.ensures c.requires)

pub returns-in_err-boolean : goal.returns-in_err-boolean
returns-in_err-boolean c =
    let p = err_from_is_err_and c.from_residual.result c.from_residual.ensures.1 in
    rw (p.1, p.2) (deleted-unnamed c.args.formula.now c.name.new.formula c.args.on c.args.t c.in_err-boolean.field-0.0 c.in_err-boolean.ensures)

pub returns-in_err-put_rows : goal.returns-in_err-put_rows
returns-in_err-put_rows c =
    let p = err_from_is_err_and c.from_residual-in_err-put_rows.result c.from_residual-in_err-put_rows.ensures.1 in
    rw (p.1, p.2)
    (deleted-stop c.args.formula.now c.name.new.formula c.args.on c.args.t c.in_ok-boolean.boolean c.in_ok-boolean.ensures c.put_rows.new.formula (Unit {0}) c.in_err-put_rows.field-0.0
    (puts-deleted c.name.new.formula c.args.on c.args.t c.in_ok-boolean.boolean c.opposite.result c.opposite-2.result c.opposite-3.result c.opposite-4.result c.opposite.ensures c.opposite-2.ensures c.opposite-3.ensures c.opposite-4.ensures (Unit {0}) c.put_rows.new.formula (Err c.in_err-put_rows.field-0.0) c.in_err-put_rows.ensures))

pub returns : goal.returns
returns c =
    deleted-makes c.args.formula.now c.name.new.formula c.args.on c.args.t c.in_ok-boolean.boolean c.in_ok-boolean.ensures c.put_rows.new.formula (Unit {0}) tt
    (puts-deleted c.name.new.formula c.args.on c.args.t c.in_ok-boolean.boolean c.opposite.result c.opposite-2.result c.opposite-3.result c.opposite-4.result c.opposite.ensures c.opposite-2.ensures c.opposite-3.ensures c.opposite-4.ensures (Unit {0}) c.put_rows.new.formula (Ok tt) c.in_ok-put_rows.ensures)
