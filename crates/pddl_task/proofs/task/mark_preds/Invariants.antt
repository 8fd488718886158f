use Rattle.std.proofs.Common.{take}
use Rattle.std.specs.List.{list_any}
use Rattle.pddl_task.specs.Task.{changes_pred}
use Rattle.pddl_task.specs.inside.Kept.{Marks}
use Rattle.pddl_task.proofs.task.mark_preds.Given as goal

abbrev pub invariant-loop-effect : goal.invariant-loop-effect
invariant-loop-effect l = Marks l.initial.flags l.flags (λ k. list_any (changes_pred k) (take l.effect-index l.effs))
