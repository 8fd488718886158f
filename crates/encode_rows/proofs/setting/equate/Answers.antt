use Rattle.std.proofs.lemmas.Result.{err_from_is_err_and}
use Rattle.encode_rows.specs.Setting.{difference}
use Rattle.encode_rows.proofs.ComparisonLaws.{front-later, below-later}
use Rattle.encode_rows.proofs.SettingLaws.{equation-stops, equation-makes}
use Rattle.encode_rows.proofs.setting.equate.Goals as goal

pub returns-in_err-compare_difference : goal.returns-in_err-compare_difference
returns-in_err-compare_difference c =
    let p = err_from_is_err_and c.from_residual.result c.from_residual.ensures.1 in
    rw (p.1, p.2)
    (equation-stops c.args.formula.now c.compare_difference.new.formula c.args.front c.args.x.now c.args.y.now (Unit {0}) (Unit {0}) c.in_err-compare_difference.field-0.0 c.in_err-compare_difference.ensures)

pub compare_difference-requires-2-clause-front : goal.compare_difference-requires-2-clause-front
compare_difference-requires-2-clause-front c =
    let h = c.requires.front in
    front-later c.args.formula.now c.compare_difference.new.formula c.args.front (Unit {0}) tt (difference h.literal c.args.x.now c.args.y.now) h (c.in_ok-compare_difference.ensures h.made h.literal h.stands h.knows)

pub compare_difference-requires-2-clause-left : goal.compare_difference-requires-2-clause-left
compare_difference-requires-2-clause-left c =
    let h = c.requires.front in
    below-later c.args.formula.now c.compare_difference.new.formula c.args.front (Unit {0}) tt (difference h.literal c.args.x.now c.args.y.now) h (c.in_ok-compare_difference.ensures h.made h.literal h.stands h.knows) c.args.y.now.terms c.requires.right

pub compare_difference-requires-2-clause-right : goal.compare_difference-requires-2-clause-right
compare_difference-requires-2-clause-right c =
    let h = c.requires.front in
    below-later c.args.formula.now c.compare_difference.new.formula c.args.front (Unit {0}) tt (difference h.literal c.args.x.now c.args.y.now) h (c.in_ok-compare_difference.ensures h.made h.literal h.stands h.knows) c.args.x.now.terms c.requires.left

pub returns : goal.returns
returns c =
    equation-makes c.args.formula.now c.compare_difference.new.formula c.args.front c.args.x.now c.args.y.now (Unit {0}) c.compare_difference-2.new.formula tt c.compare_difference-2.result
    c.in_ok-compare_difference.ensures c.compare_difference-2.ensures
