use Rattle.std.proofs.Common.{◌≡◌, ◌++◌, take}
use Rattle.plan_form.specs.Printed.{arguments_text}
use Rattle.plan_form.proofs.writing.put_arguments.Given as goal

abbrev pub invariant-loop-object : goal.invariant-loop-object
invariant-loop-object l = l.into.items ≡ l.initial.into.items ++ arguments_text l.task (take l.object-index l.args)
