use Rattle.typing_types.specs.Known.{declared_of}
use Rattle.typing_names.specs.Items.{items_of}
use Rattle.typing_types.proofs.GivenLaws.{problem_judged}
use Rattle.typing_types.proofs.given.judge_problem_types.Goals as goal

pub returns : goal.returns
returns c =
    problem_judged (declared_of c.args.known.now) c.args.problem.now (items_of c.args.items.now) _ _ c.args.faults.now _ _ _
    c.as_slice.ensures c.as_slice-2.ensures c.judge_init.ensures c.in_ok-judge_given.ensures c.judge_conditions.ensures
