use Rattle.std.proofs.lemmas.Result.{err_from_is_err_and}
use Rattle.encode_rows.proofs.SettingLaws.{difference-stops, difference-below, difference-makes}
use Rattle.encode_rows.proofs.setting.compare_difference.Goals as goal

pub returns-in_err-negative : goal.returns-in_err-negative
returns-in_err-negative c =
    let p = err_from_is_err_and c.from_residual.result c.from_residual.ensures.1 in
    rw (p.1, p.2) (λ m f s k. tt)

pub returns-in_err-l : goal.returns-in_err-l
returns-in_err-l c =
    let p = err_from_is_err_and c.from_residual-in_err-l.result c.from_residual-in_err-l.ensures.1 in
    rw (p.1, p.2)
    (difference-stops c.args.formula.now c.args.formula.now c.args.front c.args.x.now c.args.y.now c.in_ok-negative.negative c.in_ok-negative.ensures (Unit {0}) c.in_err-l.field-0.0 c.in_err-l.ensures)

pub compare-requires-clause-below : goal.compare-requires-clause-below
compare-requires-clause-below c =
    difference-below c.args.formula.now c.args.formula.now c.args.front c.args.x.now c.args.y.now c.in_ok-negative.negative c.in_ok-negative.ensures c.in_ok-l.l c.in_ok-l.ensures.1 c.requires.left c.requires.right

pub returns : goal.returns
returns c =
    difference-makes c.args.formula.now c.compare.new.formula c.args.front c.args.x.now c.args.y.now c.in_ok-negative.negative c.in_ok-negative.ensures c.in_ok-l.l c.compare.result c.in_ok-l.ensures c.compare.ensures
