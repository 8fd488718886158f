use Rattle.std.proofs.Common.{◌∙◌, ap}
use Rattle.sexpr.specs.declared.fault.Source.TheVariants as source
use Rattle.typing_linear.specs.Linear.{domain_nonlinearities}
use Rattle.typing.proofs.Passes.{test_passes, least_at}
use Rattle.typing.proofs.linking.pass_domain_linearity.Goals as goal

pub returns : goal.returns
returns c = test_passes source.Domain (domain_nonlinearities c.args.domain.now.actions) _ _ _ c.new-faults.ensures (c.judge_domain_linearity.ensures ∙ least_at _ (ap domain_nonlinearities c.requires)) c.conclude.ensures
