use Rattle.std.proofs.lemmas.Result.{err_from_is_err_and}
use Rattle.encode.proofs.OccurringLaws.{needed-state, go-stop, go-state, go-made}
use Rattle.encode.proofs.occurring.go_on.Goals as goal

pub need_all-requires-clause-state : goal.need_all-requires-clause-state
need_all-requires-clause-state c = needed-state c.args.a.now c.args.c c.args.formula.now c.args.formula.now c.args.symbols.now c.args.on c.opposite.result c.opposite.ensures c.requires.state

pub returns-in_err-need_all-clause-makes : goal.returns-in_err-need_all-clause-makes
returns-in_err-need_all-clause-makes c =
    let p = err_from_is_err_and c.from_residual.result c.from_residual.ensures.1 in
    rw (p.1, p.2)
    (go-stop c.args.a.now c.args.c c.args.formula.now c.need_all.new.formula c.args.symbols.now c.args.on c.opposite.result c.opposite.ensures (Unit {0}) (Unit {0}) c.args.symbols.now c.in_err-need_all.field-0.0
    c.in_err-need_all.ensures)

pub take_effect-requires-clause-state : goal.take_effect-requires-clause-state
take_effect-requires-clause-state c =
    go-state c.args.a.now c.args.c c.args.formula.now c.need_all.new.formula c.args.symbols.now c.args.on c.opposite.result c.opposite.ensures (Unit {0}) tt c.in_ok-need_all.ensures c.requires.state

pub returns-clause-makes : goal.returns-clause-makes
returns-clause-makes c =
    go-made c.args.a.now c.args.c c.args.formula.now c.need_all.new.formula c.args.symbols.now c.args.on c.opposite.result c.opposite.ensures (Unit {0}) tt c.in_ok-need_all.ensures c.take_effect.new.formula
    c.take_effect.new.symbols c.take_effect.result c.take_effect.ensures.makes
