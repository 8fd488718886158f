use Rattle.std.proofs.Common.{◌≤◌, length, refl, arith}
use Rattle.std.proofs.lemmas.Result.{err_from_is_err_and}
use Rattle.encode_rows.specs.Symbols.{asked_row, asked_rows}
use Rattle.encode_rows.proofs.ComparisonLaws.{ahead-start, loop-step, loop-stop, loop-end}
use Rattle.encode_rows.proofs.row.ask_all.Goals as goal

pub loop-literal-init : goal.loop-literal-init
loop-literal-init c = ahead-start c.args.formula.now c.args.symbols.now c.args.front (asked_rows c.args.literals.now) c.requires.state

pub ask-requires-clause-state : goal.ask-requires-clause-state
ask-requires-clause-state c = c.loop-literal.invariant.state

pub loop-literal-preserved : goal.loop-literal-preserved
loop-literal-preserved c =
    loop-step c.args.formula.now c.args.symbols.now c.args.front asked_rows asked_row (λ z zs. refl) c.args.literals.now c.loop-literal.literal-index _ c.loop-literal-test.true
    c.loop-literal.formula c.ask.new.formula c.loop-literal.invariant (Unit {0}) tt c.in_ok-ask.ensures

pub returns-in_err-ask : goal.returns-in_err-ask
returns-in_err-ask c =
    let p = err_from_is_err_and c.from_residual.result c.from_residual.ensures.1 in
    rw (p.1, p.2)
    (loop-stop c.args.formula.now c.args.symbols.now c.args.front asked_rows asked_row (λ z zs. refl) c.args.literals.now c.loop-literal.literal-index _ c.loop-literal-test.true
    c.loop-literal.formula c.ask.new.formula c.loop-literal.invariant (Unit {0}) (Unit {0}) c.in_err-ask.field-0.0 c.in_err-ask.ensures)

pub returns : goal.returns
returns c =
    let l : length c.args.literals.now ≤ c.loop-literal.literal-index = omega arith in
    loop-end c.args.formula.now c.args.symbols.now c.args.front asked_rows asked_row (λ z zs. refl) c.args.literals.now refl c.loop-literal.literal-index l c.loop-literal.formula (Unit {0}) tt c.loop-literal.invariant
