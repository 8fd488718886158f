use Rattle.std.proofs.lemmas.Result.{err_from_is_err_and}
use Rattle.encode_rows.specs.Beginning.{least_row, most_rows}
use Rattle.encode_rows.proofs.BeginningLaws.{standing-later, known-standing, counted-standing, counted-known, counted-unadded, counted-least, counted-most, counted-makes}
use Rattle.encode_rows.proofs.beginning.begin_counted.Goals as goal

pub put_least-requires-clause-standing : goal.put_least-requires-clause-standing
put_least-requires-clause-standing c = counted-standing c.args.rolls c.args.formula.now c.add_number.new.formula c.in_ok-c.c c.in_ok-c.ensures c.requires

pub put_least-requires-clause-known : goal.put_least-requires-clause-known
put_least-requires-clause-known c = counted-known c.args.rolls c.args.formula.now c.add_number.new.formula c.in_ok-c.c c.in_ok-c.ensures c.requires

pub returns-in_err-put_least : goal.returns-in_err-put_least
returns-in_err-put_least c =
    let p = err_from_is_err_and c.from_residual-in_err-put_least.result c.from_residual-in_err-put_least.ensures.1 in
    rw (p.1, p.2)
    (counted-least c.args.rolls c.args.formula.now c.add_number.new.formula c.in_ok-c.c c.in_ok-c.ensures c.put_least.new.formula (Unit {0}) c.in_err-put_least.field-0.0 c.in_err-put_least.ensures)

pub put_most-requires-clause-standing : goal.put_most-requires-clause-standing
put_most-requires-clause-standing c =
    standing-later (least_row c.in_ok-c.c) c.add_number.new.formula c.put_least.new.formula (Unit {0}) tt
    (counted-standing c.args.rolls c.args.formula.now c.add_number.new.formula c.in_ok-c.c c.in_ok-c.ensures c.requires) c.in_ok-put_least.ensures

pub put_most-requires-clause-known : goal.put_most-requires-clause-known
put_most-requires-clause-known c =
    known-standing (least_row c.in_ok-c.c) c.add_number.new.formula c.put_least.new.formula (Unit {0}) tt c.in_ok-c.c
    (counted-standing c.args.rolls c.args.formula.now c.add_number.new.formula c.in_ok-c.c c.in_ok-c.ensures c.requires) c.in_ok-put_least.ensures
    (counted-known c.args.rolls c.args.formula.now c.add_number.new.formula c.in_ok-c.c c.in_ok-c.ensures c.requires)

pub returns-in_err-put_most : goal.returns-in_err-put_most
returns-in_err-put_most c =
    let p = err_from_is_err_and c.from_residual-in_err-put_most.result c.from_residual-in_err-put_most.ensures.1 in
    rw (p.1, p.2)
    (counted-most c.args.rolls c.args.formula.now c.add_number.new.formula c.in_ok-c.c c.in_ok-c.ensures c.put_least.new.formula (Unit {0}) tt c.in_ok-put_least.ensures
    c.put_most.new.formula c.in_err-put_most.field-0.0 c.in_err-put_most.ensures)

pub happens-requires : goal.happens-requires
happens-requires c =
    known-standing (most_rows c.args.rolls c.in_ok-c.c) c.put_least.new.formula c.put_most.new.formula (Unit {0}) tt c.in_ok-c.c
    (standing-later (least_row c.in_ok-c.c) c.add_number.new.formula c.put_least.new.formula (Unit {0}) tt
    (counted-standing c.args.rolls c.args.formula.now c.add_number.new.formula c.in_ok-c.c c.in_ok-c.ensures c.requires) c.in_ok-put_least.ensures)
    c.in_ok-put_most.ensures
    (known-standing (least_row c.in_ok-c.c) c.add_number.new.formula c.put_least.new.formula (Unit {0}) tt c.in_ok-c.c
    (counted-standing c.args.rolls c.args.formula.now c.add_number.new.formula c.in_ok-c.c c.in_ok-c.ensures c.requires) c.in_ok-put_least.ensures
    (counted-known c.args.rolls c.args.formula.now c.add_number.new.formula c.in_ok-c.c c.in_ok-c.ensures c.requires))

pub returns : goal.returns
returns c =
    counted-makes c.args.rolls c.args.formula.now c.add_number.new.formula c.in_ok-c.c c.in_ok-c.ensures c.put_least.new.formula (Unit {0}) tt c.in_ok-put_least.ensures
    c.put_most.new.formula c.happens.new.formula c.happens.result c.in_ok-put_most.ensures c.happens.ensures

pub returns-in_err-c : goal.returns-in_err-c
returns-in_err-c c =
    let p = err_from_is_err_and c.from_residual.result c.from_residual.ensures.1 in
    rw (p.1, p.2) (counted-unadded c.args.rolls c.args.formula.now c.add_number.new.formula c.in_err-c.field-0.0 c.in_err-c.ensures)
