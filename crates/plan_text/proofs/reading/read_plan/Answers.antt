use Rattle.std.proofs.Common.{subst, None}
use Rattle.pddl_task.specs.declared.parts.TaskParts.{TaskParts}
use Rattle.pddl_form.specs.Reading.{IsRead}
use Rattle.plan_text.specs.PlanText.{names_of, plan_judged}
use Rattle.plan_text.proofs.Finishing.{is_outcome, reads_plan, reads_numbers}
use Rattle.plan_text.proofs.reading.read_plan.Goals as goal

pub finish-requires : goal.finish-requires
finish-requires c = is_outcome _ c.args.bytes.now _ _ c.in_ok-reading.ensures

pub returns-clause-numbered : goal.returns-clause-numbered
returns-clause-numbered c =
    reads_numbers c.args.task.now c.args.bytes.now _
    (reads_plan _ c.args.bytes.now _ _ _ (subst (λ (task : TaskParts). IsRead (plan_judged (names_of task) c.args.bytes.now) None c.in_ok-reading.reading.faults c.in_ok-reading.reading.found) c.in_ok-tables.ensures c.in_ok-reading.ensures) c.finish.ensures)
