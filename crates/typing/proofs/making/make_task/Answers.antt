use Rattle.std.proofs.Common.{◌≡◌, true, rules, arith}
use Rattle.typing.proofs.Passes.{task_names, task_above, task_is_well_formed}
use Rattle.typing.proofs.making.make_task.Goals as goal

pub new-requires-clause-names : goal.new-requires-clause-names
new-requires-clause-names c = task_names c.args.domain.now c.args.problem.now c.args.made c.args.more _ _ c.requires.resolved c.in-Ok.ensures.parts c.in-Ok.ensures.names

pub new-requires-clause-above : goal.new-requires-clause-above
new-requires-clause-above c = task_above c.args.domain.now c.args.problem.now c.args.made c.args.more _ _ c.requires.resolved c.in-Ok.ensures.parts c.in-Ok.ensures.above

pub new-requires-clause-well_formed : goal.new-requires-clause-well_formed
new-requires-clause-well_formed c =
    let countable : c.is_countable.result ≡ true = first_of (search rules, cc, grind arith) in
    task_is_well_formed c.args.domain.now c.args.problem.now c.args.made c.args.more _ c.requires.resolved c.requires.faultless c.in-Ok.ensures.parts (c.is_countable.ensures countable)
