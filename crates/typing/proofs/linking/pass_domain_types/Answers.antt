use Rattle.std.proofs.Common.{ap, length}
use Rattle.sexpr.specs.declared.fault.Source.TheVariants as source
use Rattle.typing_types.specs.Types.{Declared}
use Rattle.typing.proofs.Passes.{answered_at, domain_typed, domain_actions_typed, domain_type_faults_are}
use Rattle.typing.proofs.linking.pass_domain_types.Goals as goal

pub judge_domain-requires-clause-typed : goal.judge_domain-requires-clause-typed
judge_domain-requires-clause-typed c = domain_typed c.args.domain.now c.args.made.now _ c.requires c.known_by-known.ensures

pub judge_domain-requires-clause-actions : goal.judge_domain-requires-clause-actions
judge_domain-requires-clause-actions c = domain_actions_typed c.args.domain.now c.args.made.now _ _ c.requires (ap (λ (d : Declared). length d.above) c.known_by-known.ensures) c.as_slice.ensures

pub returns : goal.returns
returns c = answered_at source.Domain _ (domain_type_faults_are c.args.domain.now c.args.made.now _ _ c.requires c.known_by-known.ensures c.as_slice.ensures) c.judge_domain.ensures
