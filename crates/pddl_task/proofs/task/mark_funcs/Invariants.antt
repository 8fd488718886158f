use Rattle.std.proofs.Common.{take}
use Rattle.std.specs.List.{list_any}
use Rattle.pddl_task.specs.Task.{changes_func}
use Rattle.pddl_task.specs.inside.Kept.{Marks}
use Rattle.pddl_task.proofs.task.mark_funcs.Given as goal

abbrev pub invariant-loop-effect : goal.invariant-loop-effect
invariant-loop-effect l = Marks l.initial.flags l.flags (λ k. list_any (changes_func k) (take l.effect-index l.effs))
