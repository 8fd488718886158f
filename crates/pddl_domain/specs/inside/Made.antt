-- What the code makes of the parts of a domain.
use Rattle.std.specs.Prelude.{List, Option}
use Rattle.std.specs.Option.{option_map}
use Rattle.pddl_form.specs.declared.spot.Spot.{Spot}
use Rattle.pddl_form.specs.declared.typed.Typed.{Typed}
use Rattle.pddl_form.specs.Gather.{apply, option_both}
use Rattle.pddl_domain.specs.declared.action.ActionAst.{ActionAst}
use Rattle.pddl_domain.specs.declared.domain.DomainAst.{DomainAst}
use Rattle.pddl_domain.specs.declared.head.Head.{Head}
use Rattle.pddl_domain.specs.Domain.{domain_of}

-- the domain, or none where a part is missing
abbrev pub whole_made : Option Spot → Option (List Typed) → Option (List Typed) → Option (List Head) → Option (List Head) → Option (List ActionAst) → Option DomainAst
whole_made name types constants preds funcs actions =
    option_both apply (option_both apply (option_both apply (option_both apply (option_both apply (option_map domain_of name) types) constants) preds) funcs) actions
