use Rattle.std.proofs.Common.{List, length, subst}
use Rattle.task_core.specs.declared.action.GAction.{GAction}
use Rattle.relaxed.specs.inside.Running.{NoFlags, NoFirsts}
use Rattle.relaxed.proofs.RunSteps.{start-at}
use Rattle.relaxed.proofs.making.layers_of.Goals as goal

pub run-requires-clause-here : goal.run-requires-clause-here
run-requires-clause-here c =
    let is = c.actions-actions.ensures.value in
    let flags = subst (λ (acts : List GAction). NoFlags (length acts) c.in_ok-flags.flags) is c.in_ok-flags.ensures in
    let first = subst (λ (acts : List GAction). NoFirsts (length acts) c.in_ok-first.first) is c.in_ok-first.ensures in
    start-at c.args.task.now c.actions-actions.ensures.promised c.in_ok-table.table c.in_ok-flags.flags c.in_ok-first.first c.in_ok-table.ensures
    flags.size first.size flags.each first.each
