use Rattle.std.proofs.lemmas.Result.{err_from_is_err_and}
use Rattle.encode.proofs.OccurringLaws.{occur-stop, occur-state, occur-known, occur-made}
use Rattle.encode.proofs.occurring.occur.Goals as goal

pub returns-in_err-on-clause-makes : goal.returns-in_err-on-clause-makes
returns-in_err-on-clause-makes c =
    let p = err_from_is_err_and c.from_residual.result c.from_residual.ensures.1 in
    rw (p.1, p.2) (occur-stop c.args.a.now c.args.formula.now c.begin.new.formula c.args.symbols.now (Unit {0}) c.args.symbols.now c.in_err-on.field-0.0 c.in_err-on.ensures)

pub go_on-requires-clause-state : goal.go_on-requires-clause-state
go_on-requires-clause-state c = occur-state c.args.a.now c.args.formula.now c.begin.new.formula c.args.symbols.now c.in_ok-on.on c.in_ok-on.ensures c.requires.next

pub go_on-requires-clause-known : goal.go_on-requires-clause-known
go_on-requires-clause-known c = occur-known c.args.a.now c.args.formula.now c.begin.new.formula c.args.symbols.now c.in_ok-on.on c.in_ok-on.ensures c.vars-c.result c.vars-c.ensures c.requires.next

pub returns-clause-makes : goal.returns-clause-makes
returns-clause-makes c =
    occur-made c.args.a.now c.args.formula.now c.begin.new.formula c.args.symbols.now c.in_ok-on.on c.in_ok-on.ensures c.go_on.new.formula c.go_on.new.symbols c.vars-c.result c.go_on.result c.vars-c.ensures
    c.go_on.ensures.makes
