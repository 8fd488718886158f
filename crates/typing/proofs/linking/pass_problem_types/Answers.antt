use Rattle.std.proofs.Common.{ap, length}
use Rattle.sexpr.specs.declared.fault.Source.TheVariants as source
use Rattle.typing_types.specs.Types.{Declared}
use Rattle.typing.proofs.Passes.{answered_at, problem_typed, problem_counted, problem_type_faults_are}
use Rattle.typing.proofs.linking.pass_problem_types.Goals as goal

pub judge_problem-requires-clause-typed : goal.judge_problem-requires-clause-typed
judge_problem-requires-clause-typed c = problem_typed c.args.domain.now c.args.problem.now c.args.made.now c.args.more.now _ _ c.requires c.as_slice.ensures c.known_by-known.ensures

pub judge_problem-requires-clause-counted : goal.judge_problem-requires-clause-counted
judge_problem-requires-clause-counted c =
    problem_counted c.args.domain.now c.args.problem.now c.args.made.now c.args.more.now _ _ _ c.requires (ap (λ (d : Declared). length d.preds) c.known_by-known.ensures) (ap (λ (d : Declared). length d.funcs) c.known_by-known.ensures) c.as_slice-2.ensures

pub returns : goal.returns
returns c =
    answered_at source.Problem _ (problem_type_faults_are c.args.domain.now c.args.problem.now c.args.made.now c.args.more.now _ _ _ c.requires c.as_slice.ensures c.known_by-known.ensures c.as_slice-2.ensures) c.judge_problem.ensures
