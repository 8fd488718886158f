use Rattle.std.proofs.Common.{◌≡◌}
use Rattle.sexpr.specs.declared.fault.Source.TheVariants as source
use Rattle.pddl_task.specs.Task.{parents}
use Rattle.typing_names.specs.Domain.{domain_names, domain_scope}
use Rattle.typing_names.specs.Tables.{scope_in, parts_of}
use Rattle.typing.proofs.Passes.{names_outcome, names_made, names_refused, made_kept, resolved}
use Rattle.typing.proofs.linking.pass_domain_names.Goals as goal

pub returns-clause-made : goal.returns-clause-made
returns-clause-made c =
    resolved c.args.domain.now c.conclude.result
    (names_made source.Domain parts_of (domain_names c.args.domain.now) _ _ _ _ c.in_ok-made.ensures.names c.conclude.ensures)
    (made_kept (λ n. scope_in n.tables ≡ domain_scope c.args.domain.now) source.Domain _ _ _ c.in_ok-made.ensures.tables c.conclude.ensures)
    (made_kept (λ n. n.hierarchy ≡ parents n.types) source.Domain _ _ _ c.in_ok-made.ensures.above c.conclude.ensures)

pub returns-clause-refused : goal.returns-clause-refused
returns-clause-refused c = names_refused source.Domain parts_of (domain_names c.args.domain.now) _ _ _ _ c.new-faults.ensures c.in_ok-made.ensures.names c.conclude.ensures

pub conclude-requires : goal.conclude-requires
conclude-requires c = names_outcome parts_of (domain_names c.args.domain.now) _ _ _ c.new-faults.ensures c.in_ok-made.ensures.names
