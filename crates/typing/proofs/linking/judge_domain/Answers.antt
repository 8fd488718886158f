use Rattle.sexpr.specs.declared.fault.Source.TheVariants as source
use Rattle.typing_types.specs.Known.{declared_of, domain_type_faults}
use Rattle.typing.proofs.Passes.{test_passes}
use Rattle.typing.proofs.linking.judge_domain.Goals as goal

pub returns : goal.returns
returns c = test_passes source.Domain (domain_type_faults (declared_of c.args.known.now) c.args.domain.now c.args.actions.now) _ _ _ c.new-faults.ensures c.in_ok-judge_domain_types.ensures c.conclude.ensures
