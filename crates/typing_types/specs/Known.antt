-- What the passes over types know: tables of names, and what the names are declared with.
use Rattle.std.specs.Prelude.{◌≡◌, ℕ, Bool, true, nat_lt, List, ◌++◌, length}
use Rattle.std.specs.List.{flat_map, list_all}
use Rattle.pddl_form.specs.declared.fault.Fault.{Fault}
use Rattle.pddl_domain.specs.declared.domain.DomainAst.{DomainAst}
use Rattle.pddl_task.specs.declared.action.Action.{Action}
use Rattle.typing_types.specs.declared.fit.Known.{Known}
use Rattle.typing_uses.specs.Names.{scope_of}
use Rattle.typing_types.specs.Types.{Declared, action_faults, type_faults}

-- the objects are the constants and those of a problem
abbrev pub declared_of : Known → Declared
declared_of known = record {
  scope = scope_of known.names;
  above = known.hierarchy.now;
  objects = known.constants.now ++ known.objects.now;
  preds = known.preds.now;
  funcs = known.funcs.now;
  params = known.params.now;
}

-- each of these is one of so many types
abbrev pub are_types : ℕ → List ℕ → Bool
are_types count types = list_all (λ t. nat_lt t count) types

-- so is each type of each parameter
abbrev pub are_all_types : ℕ → List (List ℕ) → Bool
are_all_types count params = list_all (are_types count) params

-- each type that something is declared with is one of the types
pub record AreTyped (d : Declared) : Type 0 where
  pub types : length d.scope.types ≡ length d.above
  pub objects : list_all (λ o. nat_lt o.of (length d.above)) d.objects ≡ true
  pub preds : list_all (λ s. are_all_types (length d.above) s.params) d.preds ≡ true
  pub funcs : list_all (λ s. are_all_types (length d.above) s.params) d.funcs ≡ true
  pub params : are_all_types (length d.above) d.params ≡ true

-- each type of the parameters of some actions is one of so many
abbrev pub have_types : ℕ → List Action → Bool
have_types count actions = list_all (λ a. are_all_types count a.params) actions

-- the faults of a domain's types
abbrev pub domain_type_faults : Declared → DomainAst → List Action → List Fault
domain_type_faults d domain actions = flat_map (type_faults d.scope.types d.above) domain.types ++ action_faults d domain.actions actions
