use Rattle.std.proofs.Common.{take}
use Rattle.pddl_task.specs.Task.{is_changing_pred, AreFlags}
use Rattle.pddl_task.proofs.task.changing_preds.Given as goal

abbrev pub invariant-loop-action : goal.invariant-loop-action
invariant-loop-action l = AreFlags l.flags.items (is_changing_pred (take l.action-index l.actions)) l.count
