use Rattle.typing_names.specs.Tables.{parts_of}
use Rattle.typing.proofs.Passes.{problem_names_refused}
use Rattle.typing.proofs.linking.link_types.Goals as goal

pub returns-in-Err : goal.returns-in-Err
returns-in-Err c = problem_names_refused c.args.domain.now c.args.problem.now (parts_of c.args.made) c.requires.resolved.parts c.requires.typed _ c.in-Err.ensures.refused

pub link_problem-requires-clause-resolved : goal.link_problem-requires-clause-resolved
link_problem-requires-clause-resolved c = record {
  grammar = c.requires.grammar;
  domain = c.requires.resolved.parts;
  problem = c.in-Ok.ensures.made;
  tables = c.in-Ok.ensures.tables;
  hierarchy = c.requires.resolved.hierarchy;
}
