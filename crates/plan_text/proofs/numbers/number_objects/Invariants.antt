use Rattle.std.proofs.Common.{take, map}
use Rattle.plan_text.specs.inside.Numbering.{IsNumbering}
use Rattle.plan_text.proofs.numbers.number_objects.Given as goal

abbrev pub invariant-loop-place : goal.invariant-loop-place
invariant-loop-place l = IsNumbering (map (λ o. o.name) (take l.place l.task.objects)) l.numbers
