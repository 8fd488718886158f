use Rattle.std.proofs.Common.{◌≡◌, ◌-◌, ◌^◌, min, sum_by, take}
use Rattle.plan_form.proofs.flat.sum_of_counts.Given as goal

abbrev pub invariant-loop-part : goal.invariant-loop-part
invariant-loop-part l = l.sum ≡ min (sum_by (λ part. part.count) (take l.part-index l.parts)) (2 ^ 128 - 1)
