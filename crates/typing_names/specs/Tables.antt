-- What the passes over names keep besides the parts of a text.
use Rattle.std.specs.Prelude.{List, [], map}
use Rattle.pddl_task.specs.declared.declared.Object.{Object}
use Rattle.pddl_task.specs.declared.condition.Cond.{Cond}
use Rattle.typing_names.specs.declared.domain.Tables.{Tables}
use Rattle.typing_names.specs.declared.domain.DomainNames.{DomainNames}
use Rattle.typing_uses.specs.Scope.{Scope}
use Rattle.typing_names.specs.declared.item.Item.{Item as Counted}
use Rattle.typing_names.specs.declared.problem.ProblemNames.{ProblemNames}
use Rattle.typing_names.specs.Domain.{DomainParts}
use Rattle.typing_names.specs.Problem.{Item, ProblemParts}
use Rattle.typing_names.specs.Items.{item_of}

-- the names that the tables hold
abbrev pub scope_in : Tables → Scope
scope_in t = record { types = t.types; objects = t.objects; preds = t.preds; funcs = t.funcs; params = [] }

-- what a domain declares
abbrev pub parts_of : DomainNames → DomainParts
parts_of n = record { types = n.types; objects = n.objects; preds = n.preds; funcs = n.funcs; actions = n.actions }

-- the items of a problem as they are defined, between its objects and its goal
abbrev pub with_items : (List Object × List Counted) × List Cond → (List Object × List Item) × List Cond
with_items p = ((p.0.0, map item_of p.0.1), p.1)

-- what a problem declares
abbrev pub problem_parts_of : ProblemNames → ProblemParts
problem_parts_of n = record { objects = n.objects; items = map item_of n.items; goal = n.goal }
