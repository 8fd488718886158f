-- A domain: `(define (domain NAME) SECTION ..)`, whose sections stand in any order. One that is left out is empty.
use Rattle.std.specs.Prelude.{ℕ, List, [], map, codes}
use Rattle.sexpr.specs.declared.tree.Tree.{Tree}
use Rattle.sexpr.specs.declared.fault.Source.TheVariants as source
use Rattle.pddl_form.specs.declared.names.Sort.TheVariants.{Name}
use Rattle.pddl_form.specs.declared.spot.Spot.{Spot}
use Rattle.pddl_form.specs.declared.typed.Typed.{Typed}
use Rattle.pddl_form.specs.Gather.{apply}
use Rattle.pddl_form.specs.Judged.{Judged, good, mapped, both, each}
use Rattle.pddl_form.specs.Typed.{typed_list}
use Rattle.pddl_form.specs.Sections.{Contents, Definition, section_with, sections_with, contents_or, second, sections_form, requirements_form, title_form, definition_form, and_then}
use Rattle.pddl_domain.specs.declared.action.ActionAst.{ActionAst}
use Rattle.pddl_domain.specs.declared.domain.DomainAst.{DomainAst}
use Rattle.pddl_domain.specs.declared.head.Head.{Head}
use Rattle.pddl_domain.specs.Heads.{head_form, functions}
use Rattle.pddl_domain.specs.Action.{action_form}

-- a section that is empty where it is left out
abbrev pub listed : {A : Type 0} → (Contents → Judged (List A)) → List ℕ → List Tree → Judged (List A)
listed form word sections = contents_or (good []) form (section_with word sections)

-- names with types
abbrev pub names_in : Contents → Judged (List Typed)
names_in c = typed_list Name c.end c.parts

-- `(:types LIST)`, a typed list of names
unfoldable pub types_section : List Tree → Judged (List Typed)
types_section sections = listed names_in (codes ":types") sections

-- `(:constants LIST)`, the same
unfoldable pub constants_section : List Tree → Judged (List Typed)
constants_section sections = listed names_in (codes ":constants") sections

-- predicates
abbrev pub heads_in : Contents → Judged (List Head)
heads_in c = each (map head_form c.parts)

-- `(:predicates HEAD ..)`
unfoldable pub predicates_section : List Tree → Judged (List Head)
predicates_section sections = listed heads_in (codes ":predicates") sections

-- functions
abbrev pub functions_in : Contents → Judged (List Head)
functions_in c = functions c.end c.parts

-- `(:functions HEAD ..)`, perhaps with `- number` behind some of them
unfoldable pub functions_section : List Tree → Judged (List Head)
functions_section sections = listed functions_in (codes ":functions") sections

-- an action
abbrev pub action_in : Contents → Judged ActionAst
action_in c = action_form c.end c.parts

-- all `(:action NAME KEY VALUE ..)`, of which there may be many
unfoldable pub actions_section : List Tree → Judged (List ActionAst)
actions_section sections = each (map action_in (sections_with (codes ":action") sections))

-- a domain from its parts
abbrev pub domain_of : Spot → List Typed → List Typed → List Head → List Head → List ActionAst → DomainAst
domain_of name types constants preds funcs actions = record { name = name; types = types; constants = constants; preds = preds; funcs = funcs; actions = actions }

-- the six parts, or the faults of all
unfoldable pub whole : Judged Spot → Judged (List Typed) → Judged (List Typed) → Judged (List Head) → Judged (List Head) → Judged (List ActionAst) → Judged DomainAst
whole name types constants preds funcs actions = both apply (both apply (both apply (both apply (both apply (mapped domain_of name) types) constants) preds) funcs) actions

-- the title and the sections
abbrev pub read_sections : Tree → List Tree → Judged DomainAst
read_sections title sections =
    whole (title_form (codes "domain") title) (types_section sections) (constants_section sections) (predicates_section sections) (functions_section sections) (actions_section sections)

-- the parts of the text: beside their faults, those of the sections' words and of the requirements
unfoldable pub domain_parts : Definition → Judged DomainAst
domain_parts d = both second (sections_form source.Domain d.sections) (both second (requirements_form d.sections) (read_sections d.title d.sections))

-- the whole text
unfoldable pub domain_form : Tree → Judged DomainAst
domain_form tree = and_then (definition_form tree) domain_parts
