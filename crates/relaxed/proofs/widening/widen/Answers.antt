use Rattle.std.proofs.Common.{ℕ, ◌||◌, false, ap, ◌∙◌, List, Result, Ok, Err, slice_index_or}
use Rattle.std.specs.Prelude.{OnOk}
use Rattle.task_core.specs.Step.{is_in}
use Rattle.relaxed.proofs.Distinct.{changes-made}
use Rattle.relaxed.proofs.widening.widen.Goals as goal

on_ok : {X E : Type 0} (r : Result X E) (P Q : Type 0) → (P → Q) → OnOk r P → OnOk r Q
on_ok (Ok x) P Q f h = f h
on_ok (Err e) P Q f h = tt

pub returns-clause-widens : goal.returns-clause-widens
returns-clause-widens c =
    on_ok c.widen_by_values.result _ _
    (λ h. record {
      true_size = c.mark.ensures.size;
      false_size = c.mark-2.ensures.size;
      interval_size = h.size ∙ c.widen_by_amounts.ensures.size;
      true_each = λ n l. c.mark.ensures.each n l ∙ ap (λ (ps : List ℕ). slice_index_or c.args.next.now.may_be_true n false || is_in n ps) c.as_slice.ensures;
      false_each = λ n l. c.mark-2.ensures.each n l ∙ ap (λ (ps : List ℕ). slice_index_or c.args.next.now.may_be_false n false || is_in n ps) c.as_slice-2.ensures;
      interval_each = changes-made c.args.table.now c.args.a.now c.args.next.now.intervals c.widen_by_amounts.new.intervals c.widen_by_values.new.intervals
          c.as_slice-old.result.now c.as_slice-3.result.now c.as_slice-4.result.now c.requires c.as_slice-old.ensures c.as_slice-3.ensures c.as_slice-4.ensures
          c.widen_by_amounts.ensures h;
    })
    c.widen_by_values.ensures.widens
