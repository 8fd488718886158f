use lib.IntN.{pos}
use Rattle.std.proofs.Common.{Vec, Global, ◌≡◌, ◌<◌, ℕ, sym, ap, ◌∙◌, arith, length, slice_index_or, get_or}
use Rattle.std.proofs.lemmas.Result.{err_from_is_err_and}
use Rattle.std.proofs.lemmas.List.{with_items_is, get_or_default}
use Rattle.rational.specs.Fraction.{whole}
use Rattle.frac128.specs.declared.fraction.Frac.{Frac}
use Rattle.std.specs.Vec.{with_items}
use Rattle.tableau.specs.Table.{at}
use Rattle.tableau.proofs.FilledRows.{filled_more, filled_wide}
use Rattle.tableau.proofs.filling.fill.Goals as goal

pub loop-i-preserved : goal.loop-i-preserved
loop-i-preserved c =
    let row = c.index-rows-i.result in
    let w = slice_index_or c.loop-i.into c.loop-i.i c.index-into-i.result in
    let l : c.loop-i.i < length c.args.rows.now = omega arith in
    let size : Vec Frac Global → ℕ = λ v. length v.items in
    let long : length c.fill_row.new.into ≡ w.len = c.fill_row.auto.into ∙ c.as_mut_slice.ensures.len in
    let is : (with_items w c.fill_row.new.into).items ≡ c.fill_row.new.into = with_items_is w c.fill_row.new.into long in
    let a : length w.items ≡ length (get_or c.args.rows.now c.loop-i.i c.index-into-i.result).items = c.loop-i.invariant.shape c.loop-i.i c.index-into-i.result l in
    let b : length row.items ≡ length (get_or c.args.rows.now c.loop-i.i c.index-into-i.result).items = ap size (c.index-rows-i.is ∙ get_or_default c.args.rows.now c.loop-i.i row c.index-into-i.result l) in
    filled_more (λ v. v.items) c.args.rows.now c.loop-i.into (at c.args.solved.now) (length c.args.solved.now) c.args.r c.args.e c.loop-i.i row (with_items w c.fill_row.new.into) l c.index-rows-i.is
    c.deref.result.now c.fill_row.new.into c.deref.ensures.value is (c.fill_row.auto.into ∙ ap length c.as_mut_slice.ensures.value ∙ a ∙ sym b ∙ sym (ap length c.deref.ensures.value))
    c.loop-i.invariant c.in_ok-fill_row.field-0 c.in_ok-fill_row.ensures

pub returns-in_err-fill_row-clause-answers : goal.returns-in_err-fill_row-clause-answers
returns-in_err-fill_row-clause-answers c =
    let p = err_from_is_err_and c.from_residual.result c.from_residual.ensures.1 in
    let row = c.index-rows-i.result in
    let w = slice_index_or c.loop-i.into c.loop-i.i c.index-into-i.result in
    let l : c.loop-i.i < length c.args.rows.now = omega arith in
    let long : length c.fill_row.new.into ≡ w.len = c.fill_row.auto.into ∙ c.as_mut_slice.ensures.len in
    let is : (with_items w c.fill_row.new.into).items ≡ c.fill_row.new.into = with_items_is w c.fill_row.new.into long in
    rw (p.1, p.2)
    (filled_wide (λ v. v.items) c.args.rows.now c.loop-i.into (at c.args.solved.now) (length c.args.solved.now) c.args.r c.args.e c.loop-i.i row (with_items w c.fill_row.new.into) l c.index-rows-i.is
    c.deref.result.now c.fill_row.new.into c.deref.ensures.value is (length c.args.rows.now) l (λ _ _. whole (pos 0)) _ c.in_err-fill_row.ensures c.requires.many)
