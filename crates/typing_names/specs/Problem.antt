-- The names of a problem: its objects, its initial state and its goal, with numbers for names, or the faults of its names.
use Rattle.std.specs.Prelude.{ℕ, Bool, true, false, List, [], ◌∷◌, ◌++◌, map, bytes_eq, if◌then◌else◌}
use Rattle.rational.specs.Fraction.{Fraction}
use Rattle.pddl_form.specs.declared.fault.Fault.{Fault}
use Rattle.pddl_form.specs.declared.spot.Spot.{Spot}
use Rattle.pddl_form.specs.Judged.{Judged, mapped, both, each}
use Rattle.pddl_domain.specs.declared.domain.DomainAst.{DomainAst}
use Rattle.pddl_problem.specs.declared.ast.InitAst.{InitAst}
use Rattle.pddl_problem.specs.declared.ast.InitAst.TheVariants as item_ast
use Rattle.pddl_problem.specs.declared.ast.ProblemAst.{ProblemAst}
use Rattle.pddl_task.specs.declared.declared.Object.{Object}
use Rattle.pddl_task.specs.declared.condition.Cond.{Cond}
use Rattle.pddl_task.specs.declared.start.Fact.{Fact}
use Rattle.pddl_task.specs.declared.start.Given.{Given}
use Rattle.typing_uses.specs.Scope.{Scope, texts, named, sighted, declared_again}
use Rattle.typing_names.specs.Faults.{beside}
use Rattle.pddl_form.specs.Gather.{apply}
use Rattle.typing_uses.specs.Expressions.{conditions_named}
use Rattle.typing_names.specs.Domain.{names_of, domain_scope, objects_named}

-- `:domain` names another domain (kind 13)
abbrev pub other_domain : ℕ → Fault
other_domain place = record { kind = 13; place = place; word = [] }

abbrev pub domain_faults : DomainAst → ProblemAst → List Fault
domain_faults d p = if bytes_eq p.domain.text d.name.text then [] else other_domain p.domain.place ∷ []

-- ---- items of the initial state, with their places

pub data Item : Type 0 where
  atom : ℕ → Bool → ℕ → List ℕ → Item
  value : ℕ → ℕ → List ℕ → Fraction → Item

abbrev pub objects_in : Scope → List Spot → Judged (List ℕ)
objects_in scope args = each (map (named scope.objects) args)

abbrev pub value_with : ℕ → Fraction → ℕ → List ℕ → Item
value_with place amount func args = value place func args amount

abbrev pub item_named : Scope → InitAst → Judged Item
item_named scope (item_ast.Put pos name args place) = both (atom place pos) (named scope.preds name) (objects_in scope args)
item_named scope (item_ast.Value name args amount place) = both (value_with place amount) (named scope.funcs name) (objects_in scope args)

-- the atoms that are true at the start
abbrev pub facts_in : List Item → List Fact
facts_in [] = []
facts_in (atom place true pred args ∷ more) = record { pred = pred; args = args } ∷ facts_in more
facts_in (atom place false pred args ∷ more) = facts_in more
facts_in (value place func args amount ∷ more) = facts_in more

abbrev pub values_in : List Item → List Given
values_in [] = []
values_in (atom place pos pred args ∷ more) = values_in more
values_in (value place func args amount ∷ more) = record { func = func; args = args; value = amount } ∷ values_in more

-- ---- the whole

pub record ProblemParts : Type 0 where
  pub objects : List Object
  pub items : List Item
  pub goal : List Cond

abbrev pub parts_with : List Object → List Item → List Cond → ProblemParts
parts_with objects items goal = record { objects = objects; items = items; goal = goal }

-- the constants and the problem's objects are one space
abbrev pub problem_scope : DomainAst → ProblemAst → Scope
problem_scope d p = record (domain_scope d) { objects = sighted (domain_scope d).objects (texts (names_of p.objects)) }

abbrev pub parts_named : Scope → ProblemAst → Judged ProblemParts
parts_named scope p =
    both apply (both apply (mapped parts_with (objects_named scope.types p.objects)) (each (map (item_named scope) p.init))) (conditions_named scope p.goal)

-- the pass over the problem's names
unfoldable pub problem_names : DomainAst → ProblemAst → Judged ProblemParts
problem_names d p =
    beside (domain_faults d p ++ declared_again (domain_scope d).objects (names_of p.objects)) (parts_named (problem_scope d p) p)
