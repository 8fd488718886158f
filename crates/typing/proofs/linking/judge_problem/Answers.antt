use Rattle.sexpr.specs.declared.fault.Source.TheVariants as source
use Rattle.typing_names.specs.Items.{items_of}
use Rattle.typing_types.specs.Known.{declared_of}
use Rattle.typing_types.specs.Types.{problem_faults}
use Rattle.typing.proofs.Passes.{test_passes}
use Rattle.typing.proofs.linking.judge_problem.Goals as goal

pub returns : goal.returns
returns c = test_passes source.Problem (problem_faults (declared_of c.args.known.now) c.args.problem.now (items_of c.args.items.now)) _ _ _ c.new-faults.ensures c.in_ok-judge_problem_types.ensures c.conclude.ensures
