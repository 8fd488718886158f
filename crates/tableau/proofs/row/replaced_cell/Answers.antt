use Rattle.std.proofs.Common.{◌≡◌, ◌<◌, length, sym, ◌∙◌, arith}
use lib.IntN.{pos}
use Rattle.std.proofs.lemmas.List.{get_or_read}
use Rattle.rational.specs.Fraction.{whole}
use Rattle.tableau.specs.Table.{at}
use Rattle.tableau.proofs.RowAnswers.{cell-stays}
use Rattle.tableau.proofs.row.replaced_cell.Goals as goal

pub returns-then-is_zero : goal.returns-then-is_zero
returns-then-is_zero c =
    let l : c.args.j < length c.args.solved.now = omega (arith, c.requires.among, c.requires.as_long) in
    let z : at c.args.solved.now c.args.j ≡ whole (pos 0) = sym (get_or_read c.args.solved.now c.args.j c.index-solved-j.result l c.index-solved-j.is (whole (pos 0))) ∙ c.is_zero.ensures.0 c.if-is_zero.true in
    cell-stays (at c.args.row.now) (at c.args.solved.now) c.args.e c.args.j c.if-j-e.false z _ (get_or_read c.args.row.now c.args.j c.index-row-j.result c.requires.among c.index-row-j.is (whole (pos 0)))
