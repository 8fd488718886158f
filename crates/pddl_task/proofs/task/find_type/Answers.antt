use Rattle.std.proofs.Common.{◌∙◌}
use Rattle.std.specs.Str.{str_to_ascii_lowercase}
use Rattle.pddl_task.proofs.Lowering.{named_position}
use Rattle.pddl_task.proofs.task.find_type.Goals as goal

pub returns-clause-value : goal.returns-clause-value
returns-clause-value c = c.place_of.ensures.value ∙ named_position c.args.types.now (str_to_ascii_lowercase c.args.name.now)
