use Rattle.sexpr.specs.declared.fault.Source.TheVariants as source
use Rattle.typing_names.specs.Problem.{problem_names}
use Rattle.typing_names.specs.Tables.{problem_parts_of}
use Rattle.typing.proofs.Passes.{names_outcome, names_made, names_refused, whatever}
use Rattle.typing.proofs.linking.pass_problem_names.Goals as goal

pub conclude-requires : goal.conclude-requires
conclude-requires c = names_outcome problem_parts_of (problem_names c.args.domain.now c.args.problem.now) _ _ _ c.new-faults.ensures c.in_ok-more.ensures.names

pub returns-clause-made : goal.returns-clause-made
returns-clause-made c = names_made source.Problem problem_parts_of (problem_names c.args.domain.now c.args.problem.now) _ _ _ _ c.in_ok-more.ensures.names c.conclude.ensures

pub returns-clause-tables : goal.returns-clause-tables
returns-clause-tables c = whatever c.conclude.result c.in_ok-more.ensures.tables

pub returns-clause-refused : goal.returns-clause-refused
returns-clause-refused c = names_refused source.Problem problem_parts_of (problem_names c.args.domain.now c.args.problem.now) _ _ _ _ c.new-faults.ensures c.in_ok-more.ensures.names c.conclude.ensures
