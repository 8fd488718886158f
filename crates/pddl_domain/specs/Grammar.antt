-- A domain in the words of the grammar (this project's profile of PDDL 2.1, level 2): what `read_domain` promises of the
-- syntax that it makes.
use Rattle.std.specs.Prelude.{Bool, ◌&&◌}
use Rattle.std.specs.List.{list_all}
use Rattle.pddl_form.specs.declared.names.Sort.TheVariants.{Name, Variable, Term}
use Rattle.pddl_form.specs.Grammar.{is_of, is_call, is_typed}
use Rattle.pddl_form.specs.Names.{is_symbol, is_one_of}
use Rattle.pddl_condition.specs.Grammar.{is_expression, is_condition}
use Rattle.pddl_domain.specs.declared.action.ActionAst.{ActionAst}
use Rattle.pddl_domain.specs.declared.domain.DomainAst.{DomainAst}
use Rattle.pddl_domain.specs.declared.effect.EffAst.{EffAst}
use Rattle.pddl_domain.specs.declared.effect.EffAst.TheVariants as eff
use Rattle.pddl_domain.specs.declared.head.Head.{Head}
use Rattle.pddl_domain.specs.Effect.{changes}

-- a leaf of an effect; what changes a function is one of `assign`, `decrease`, `increase`, `scale-down` and `scale-up`
abbrev pub is_effect : EffAst → Bool
is_effect (eff.Put pos name args) = is_call Term name args
is_effect (eff.Change op name args by) = is_one_of changes op.text && (is_call Term name args && is_expression by)

-- a declared predicate or function, whose parameters are variables
abbrev pub is_head : Head → Bool
is_head head = is_symbol head.name.text && list_all (is_typed Variable) head.params

-- an action
abbrev pub is_action : ActionAst → Bool
is_action action = is_of Name action.name && (list_all (is_typed Variable) action.params && (list_all is_condition action.conds && list_all is_effect action.effs))

-- what the sections of a domain declare
abbrev pub are_declarations : DomainAst → Bool
are_declarations d = list_all (is_typed Name) d.types && (list_all (is_typed Name) d.constants && (list_all is_head d.preds && list_all is_head d.funcs))

-- a domain
unfoldable pub is_domain : DomainAst → Bool
is_domain d = is_of Name d.name && (are_declarations d && list_all is_action d.actions)
