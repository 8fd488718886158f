use Rattle.std.proofs.Common.{◌≡◌, sym, ◌∙◌}
use lib.IntN.{pos}
use Rattle.std.proofs.lemmas.List.{get_or_read}
use Rattle.rational.specs.Fraction.{whole}
use Rattle.tableau.specs.Table.{at}
use Rattle.tableau.proofs.RowAnswers.{cell-at_r, cell-zero}
use Rattle.tableau.proofs.row.solved_cell.Goals as goal

pub returns-then-j-r : goal.returns-then-j-r
returns-then-j-r c =
    cell-at_r (at c.args.row.now) c.args.r c.args.e c.args.j c.if-j-e.false c.if-j-r.true _ _ c.one.ensures (get_or_read c.args.row.now c.args.e c.index-row-e.result c.requires.entering c.index-row-e.is (whole (pos 0))) c.div.result c.div.ensures

pub returns-then-is_zero : goal.returns-then-is_zero
returns-then-is_zero c =
    let z : at c.args.row.now c.args.j ≡ whole (pos 0) = sym (get_or_read c.args.row.now c.args.j c.index-row-j.result c.requires.among c.index-row-j.is (whole (pos 0))) ∙ c.is_zero.ensures.0 c.if-is_zero.true in
    cell-zero (at c.args.row.now) c.args.r c.args.e c.args.j c.if-j-e.false c.if-j-r.false z _ c.zero-then-is_zero.ensures
