use Rattle.std.proofs.Common.{◌∙◌, sym}
use Rattle.std.proofs.lemmas.Result.{err_from_is_err_and}
use Rattle.encode_rows.proofs.LastingLaws.{last-stops, last-unchanged, last-changed}
use Rattle.encode_rows.proofs.lasting.compare_last.Goals as goal

pub returns-in_err-d : goal.returns-in_err-d
returns-in_err-d c =
    let p = err_from_is_err_and c.from_residual.result c.from_residual.ensures.1 in
    rw (p.1, p.2) (last-stops c.args.formula.now c.args.symbols.now c.args.front c.args.incs.now c.args.c c.args.comparison.now (Unit {0}) c.in_err-d.field-0.0 c.in_err-d.ensures)

pub returns-then-is_zero : goal.returns-then-is_zero
returns-then-is_zero c =
    last-unchanged c.args.formula.now c.args.symbols.now c.args.front c.args.incs.now c.args.c c.args.comparison.now c.in_ok-d.d c.in_ok-d.ensures (Unit {0}) tt
    (sym c.is_zero.ensures ∙ c.if-is_zero.true)

pub returns : goal.returns
returns c =
    last-changed c.args.formula.now c.args.symbols.now c.args.front c.args.incs.now c.args.c c.args.comparison.now c.in_ok-d.d c.in_ok-d.ensures c.compare_changed.new.formula c.compare_changed.result
    (sym c.is_zero.ensures ∙ c.if-is_zero.false) c.compare_changed.ensures
