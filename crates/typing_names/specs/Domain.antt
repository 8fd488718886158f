-- The names of a domain: what it declares, with numbers for names, or the faults of its names.
use Rattle.std.specs.Prelude.{ℕ, List, [], ◌∷◌, ◌++◌, map, codes, bytes_eq, unwrap_or, if◌then◌else◌}
use Rattle.std.specs.List.{flat_map}
use Rattle.name_table.specs.NameTable.{number_in}
use Rattle.pddl_form.specs.declared.fault.Fault.{Fault}
use Rattle.pddl_form.specs.declared.spot.Spot.{Spot}
use Rattle.pddl_form.specs.declared.typed.Typed.{Typed}
use Rattle.pddl_form.specs.Judged.{Judged, good, mapped, both, each}
use Rattle.pddl_domain.specs.declared.head.Head.{Head}
use Rattle.pddl_domain.specs.declared.action.ActionAst.{ActionAst}
use Rattle.pddl_domain.specs.declared.domain.DomainAst.{DomainAst}
use Rattle.pddl_task.specs.declared.declared.TypeName.{TypeName}
use Rattle.pddl_task.specs.declared.declared.Object.{Object}
use Rattle.pddl_task.specs.declared.declared.Signature.{Signature}
use Rattle.pddl_task.specs.declared.action.Action.{Action}
use Rattle.pddl_task.specs.declared.condition.Cond.{Cond}
use Rattle.pddl_task.specs.declared.effect.Effect.{Effect}
use Rattle.typing_uses.specs.Scope.{Scope, texts, named, sighted, distinct, declared_again}
use Rattle.typing_names.specs.Faults.{beside}
use Rattle.pddl_form.specs.Gather.{apply}
use Rattle.typing_uses.specs.Expressions.{conditions_named, effects_named}

abbrev pub names_of : List Typed → List Spot
names_of items = map (λ t. t.name) items

-- ---- types

abbrev pub object_name : List ℕ
object_name = codes "object"

-- the types: `object`, and each name of the section in text order, whether it is listed or stands as a supertype
abbrev pub type_names : List Typed → List (List ℕ)
type_names types = sighted (object_name ∷ []) (flat_map (λ t. t.name.text ∷ texts t.types) types)

abbrev pub listed_under : List Spot → List ℕ
listed_under [] = object_name
listed_under (s ∷ more) = s.text

-- the supertype that a type is listed with; others are under `object`
abbrev pub supertype_of : List Typed → List ℕ → List ℕ
supertype_of [] name = object_name
supertype_of (t ∷ more) name = if bytes_eq t.name.text name then listed_under t.types else supertype_of more name

abbrev pub type_called : List Typed → List (List ℕ) → List ℕ → TypeName
type_called types names name = record { name = name; parent = unwrap_or (number_in names (supertype_of types name)) 0 }

abbrev pub types_in : List Typed → List TypeName
types_in types = map (type_called types (type_names types)) (type_names types)

-- ---- objects

abbrev pub object_with : List ℕ → ℕ → Object
object_with name type = record { name = name; of = type }

-- the type that is written; where none is, `object`, which has the number 0
abbrev pub written_type : List (List ℕ) → List Spot → Judged ℕ
written_type types [] = good 0
written_type types (s ∷ more) = named types s

abbrev pub object_named : List (List ℕ) → Typed → Judged Object
object_named types t = mapped (object_with t.name.text) (written_type types t.types)

abbrev pub objects_named : List (List ℕ) → List Typed → Judged (List Object)
objects_named types items = each (map (object_named types) items)

-- ---- parameters

abbrev pub or_object : List ℕ → List ℕ
or_object [] = 0 ∷ []
or_object (t ∷ more) = t ∷ more

-- the types that a parameter allows: those that are written, and where none is `object`
abbrev pub parameter_named : List (List ℕ) → Typed → Judged (List ℕ)
parameter_named types t = mapped or_object (each (map (named types) t.types))

-- the parameters of one list, no two with one name
abbrev pub parameters_named : List (List ℕ) → List Typed → Judged (List (List ℕ))
parameters_named types params = beside (declared_again [] (names_of params)) (each (map (parameter_named types) params))

abbrev pub signature_with : List ℕ → List (List ℕ) → Signature
signature_with name params = record { name = name; params = params }

abbrev pub signature_named : List (List ℕ) → Head → Judged Signature
signature_named types head = mapped (signature_with head.name.text) (parameters_named types head.params)

abbrev pub signatures_named : List (List ℕ) → List Head → Judged (List Signature)
signatures_named types heads = each (map (signature_named types) heads)

-- ---- actions

abbrev pub action_with : List ℕ → List (List ℕ) → List Cond → List Effect → Action
action_with name params conds effs = record { name = name; params = params; conds = conds; effs = effs }

abbrev pub within : Scope → List Typed → Scope
within scope params = record scope { params = distinct (texts (names_of params)) }

abbrev pub action_named : Scope → ActionAst → Judged Action
action_named scope a =
    both apply (both apply (mapped (action_with a.name.text) (parameters_named scope.types a.params)) (conditions_named (within scope a.params) a.conds)) (effects_named (within scope a.params) a.effs)

abbrev pub actions_named : Scope → List ActionAst → Judged (List Action)
actions_named scope actions = each (map (action_named scope) actions)

-- ---- the whole

-- what a domain declares; its objects are the constants
pub record DomainParts : Type 0 where
  pub types : List TypeName
  pub objects : List Object
  pub preds : List Signature
  pub funcs : List Signature
  pub actions : List Action

abbrev pub parts_with : List TypeName → List Object → List Signature → List Signature → List Action → DomainParts
parts_with types objects preds funcs actions = record { types = types; objects = objects; preds = preds; funcs = funcs; actions = actions }

abbrev pub heads_of : List Head → List Spot
heads_of heads = map (λ h. h.name) heads

-- the names of the domain's spaces
abbrev pub domain_scope : DomainAst → Scope
domain_scope d = record { types = type_names d.types; objects = distinct (texts (names_of d.constants)); preds = distinct (texts (heads_of d.preds)); funcs = distinct (texts (heads_of d.funcs)); params = [] }

-- names that are declared a second time: each space by itself
abbrev pub domain_again : DomainAst → List Fault
domain_again d =
    declared_again [] (names_of d.types) ++ (declared_again [] (names_of d.constants) ++ (declared_again [] (heads_of d.preds)
    ++ (declared_again [] (heads_of d.funcs) ++ declared_again [] (map (λ a. a.name) d.actions))))

abbrev pub parts_named : Scope → DomainAst → Judged DomainParts
parts_named scope d =
    both apply (both apply (both apply (mapped (parts_with (types_in d.types)) (objects_named scope.types d.constants)) (signatures_named scope.types d.preds))
    (signatures_named scope.types d.funcs)) (actions_named scope d.actions)

-- the pass over the domain's names
unfoldable pub domain_names : DomainAst → Judged DomainParts
domain_names d = beside (domain_again d) (parts_named (domain_scope d) d)
