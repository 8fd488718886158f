use Rattle.ground_laws.specs.Result.{task_from}
use Rattle.planner_text.proofs.Refuting.{places_of_actions}
use Rattle.search.proofs.plan.spells.Goals as goal

pub returns : goal.returns
returns c = c.point_spells_plan.ensures (task_from c.args.task.now) c.args.opened.now.pattern c.args.n c.args.p.now (places_of_actions c.args.task.now c.args.opened.now.pattern c.requires.opened.pattern) c.requires.solution
