use Rattle.std.proofs.Common.{◌≡◌, ◌<◌, length, sym, ◌∙◌}
use lib.IntN.{pos}
use Rattle.std.proofs.lemmas.List.{get_or_read}
use Rattle.rational.specs.Fraction.{whole}
use Rattle.tableau.specs.Table.{at}
use Rattle.tableau.proofs.RowAnswers.{row-empty, row-copied, in_full_row, empty_from}
use Rattle.tableau.proofs.filling.fill_row.Goals as goal

pub returns-then-is_empty : goal.returns-then-is_empty
returns-then-is_empty c =
    row-empty c.args.row.now c.args.into.now (at c.args.solved.now) (length c.args.solved.now) c.args.r c.args.e c.args.i (empty_from (length c.args.row.now) c.is_empty.result c.is_empty.ensures c.if-is_empty.true) c.requires.into_as_long tt

pub returns-then-is_zero : goal.returns-then-is_zero
returns-then-is_zero c =
    let l : c.args.e < length c.args.row.now = in_full_row (length c.args.row.now) (length c.args.solved.now) c.args.e c.is_empty.result c.is_empty.ensures c.if-is_empty.false c.requires.as_long c.requires.entering in
    let z : at c.args.row.now c.args.e ≡ whole (pos 0) = sym (get_or_read c.args.row.now c.args.e c.index-row-e.result l c.index-row-e.is (whole (pos 0))) ∙ c.is_zero.ensures.0 c.if-is_zero.true in
    row-copied c.args.row.now c.copy_from_slice.new.self (at c.args.solved.now) (length c.args.solved.now) c.args.r c.args.e c.args.i z c.copy_from_slice.ensures.after tt
