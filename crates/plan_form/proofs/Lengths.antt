-- The length of a plan written out is the sum of its counts.
use Rattle.std.proofs.Common.{◌≡◌, ℕ, ◌-◌, ◌^◌, min, sum_by, List, length, sym, ap, ◌∙◌}
use Rattle.std.proofs.Math.Path.{fun_ext}
use Rattle.std.proofs.lemmas.List.{length-replicate}
use Rattle.std.proofs.lemmas.List.Concat.{length-flat_map}
use Rattle.plan_form.specs.declared.plan.Part.{Part}
use Rattle.plan_form.specs.Printed.{copies_of, written_out, flat_length}

pub length-written_out : (plan : List Part) → length (written_out plan) ≡ sum_by (λ part. part.count) plan
unfolding written_out
length-written_out plan = length-flat_map copies_of plan ∙ ap (λ (f : Part → ℕ). sum_by f plan) (fun_ext (λ part. length-replicate part.count part.by))

-- the sum of the counts, capped
pub steps_are : (n : ℕ) (parts plan : List Part) → n ≡ min (sum_by (λ part. part.count) parts) (2 ^ 128 - 1) → parts ≡ plan → n ≡ flat_length plan
steps_are n parts plan is same = is ∙ ap (λ (k : ℕ). min k (2 ^ 128 - 1)) (ap (λ (ps : List Part). sum_by (λ part. part.count) ps) same ∙ sym (length-written_out plan))
