use Rattle.typing_names.specs.Tables.{parts_of, problem_parts_of}
use Rattle.typing.proofs.Passes.{problem_types_refused, linearity_refused, faultless_found}
use Rattle.typing.proofs.linking.pass_problem.Goals as goal

pub returns-in-Ok-clause-faultless : goal.returns-in-Ok-clause-faultless
returns-in-Ok-clause-faultless c = faultless_found c.args.domain.now c.args.problem.now c.args.made.now c.args.more.now c.requires.typed c.in-Ok.ensures _ c.pass_linearity.ensures.linear

pub returns-in-Ok-clause-refused : goal.returns-in-Ok-clause-refused
returns-in-Ok-clause-refused c =
    linearity_refused c.args.domain.now c.args.problem.now (parts_of c.args.made.now) c.requires.resolved.domain c.requires.typed (problem_parts_of c.args.more.now) c.requires.resolved.problem c.in-Ok.ensures _ c.pass_linearity.ensures.refused

pub returns-in-Err-clause-refused : goal.returns-in-Err-clause-refused
returns-in-Err-clause-refused c =
    problem_types_refused c.args.domain.now c.args.problem.now (parts_of c.args.made.now) c.requires.resolved.domain c.requires.typed (problem_parts_of c.args.more.now) c.requires.resolved.problem _ c.in-Err.ensures
