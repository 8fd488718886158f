use Rattle.std.proofs.Common.{◌∙◌, ap, sym}
use Rattle.pddl_task.specs.Task.{parents}
use Rattle.typing_uses.specs.Scope.{Scope}
use Rattle.typing_names.specs.Tables.{scope_in}
use Rattle.typing_names.proofs.DomainParts.{domain_read, tables_kept}
use Rattle.typing_names.proofs.GrammarParts.{domain_actions}
use Rattle.typing_names.proofs.domain.resolve_domain.Goals as goal

pub returns-clause-names : goal.returns-clause-names
returns-clause-names c =
    domain_read c.args.d.now (scope_in c.in_ok-new.tables) _ _ _ _ _ _ _ _ c.in_ok-new.ensures.faults c.in_ok-new.ensures.names c.in_ok-found.ensures.parts c.beside-parts.ensures
    c.in_ok-found.ensures.types c.domain_of.ensures.parts

pub returns-clause-tables : goal.returns-clause-tables
returns-clause-tables c = tables_kept c.args.d.now _ _ c.in_ok-new.ensures.names c.domain_of.ensures.tables

pub returns-clause-above : goal.returns-clause-above
returns-clause-above c = c.domain_of.ensures.above (c.in_ok-found.ensures.above ∙ ap parents (sym c.in_ok-found.ensures.types))

pub resolve_inside-requires-clause-actions : goal.resolve_inside-requires-clause-actions
resolve_inside-requires-clause-actions c = domain_actions c.args.d.now c.requires

pub resolve_inside-requires-clause-types : goal.resolve_inside-requires-clause-types
resolve_inside-requires-clause-types c = ap (λ (s : Scope). s.types) c.in_ok-new.ensures.names
