use Rattle.std.proofs.lemmas.Result.{err_from_is_err_and}
use Rattle.encode_rows.proofs.ComparisonLaws.{compare-row, compare-makes, compare-stops}
use Rattle.encode_rows.proofs.comparison.compare.Goals as goal

pub put_row-requires : goal.put_row-requires
put_row-requires c = compare-row c.args.formula.now c.literal_of.new.formula c.args.front c.args.strict c.args.l.now c.in_ok-literal.literal c.requires.front c.in_ok-literal.ensures

pub returns-in_err-literal : goal.returns-in_err-literal
returns-in_err-literal c =
    let p = err_from_is_err_and c.from_residual.result c.from_residual.ensures.1 in
    rw (p.1, p.2) (compare-stops c.args.formula.now c.literal_of.new.formula c.args.front c.args.strict c.args.l.now (Unit {0}) c.in_err-literal.field-0.0 c.in_err-literal.ensures)

pub returns : goal.returns
returns c = compare-makes c.args.formula.now c.literal_of.new.formula c.args.front c.args.strict c.args.l.now c.put_row.new.formula c.in_ok-literal.literal c.put_row.result c.in_ok-literal.ensures c.put_row.ensures
