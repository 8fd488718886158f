use Rattle.std.proofs.Common.{◌∙◌}
use Rattle.sexpr.specs.declared.fault.Source.TheVariants as source
use Rattle.typing_linear.specs.Linear.{goal_nonlinearities}
use Rattle.typing.proofs.Passes.{test_passes, least_at, goal_faults_are}
use Rattle.typing.proofs.linking.pass_goal_linearity.Goals as goal

pub returns : goal.returns
returns c = test_passes source.Problem (goal_nonlinearities c.args.domain.now.actions c.args.problem.now.goal) _ _ _ c.new-faults.ensures (c.judge_goal_linearity.ensures ∙ least_at _ (goal_faults_are _ _ _ _ c.requires c.as_slice.ensures)) c.conclude.ensures
