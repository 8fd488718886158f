-- The task that two texts come to, or the first fault of the first pass that has one: the names of the domain, its types,
-- the names of the problem, its types, and linearity, the domain first.
use Rattle.std.specs.Prelude.{◌≡◌, List, ◌∷◌, ◌++◌, Option, Some, None, Result, Ok, Err}
use Rattle.sexpr.specs.declared.fault.Source.{Source}
use Rattle.sexpr.specs.declared.fault.Source.TheVariants as source
use Rattle.sexpr.specs.declared.fault.TextFault.{TextFault}
use Rattle.sexpr.specs.declared.fault.TextRefusal.{TextRefusal}
use Rattle.sexpr.specs.declared.fault.TextRefusal.TheVariants as refusal
use Rattle.pddl_form.specs.declared.fault.Fault.{Fault}
use Rattle.pddl_form.specs.Faults.{least}
use Rattle.pddl_form.specs.Judged.{Judged, good, bad}
use Rattle.pddl_form.specs.Concluded.{text_fault}
use Rattle.pddl_domain.specs.declared.domain.DomainAst.{DomainAst}
use Rattle.pddl_problem.specs.declared.ast.ProblemAst.{ProblemAst}
use Rattle.pddl_task.specs.declared.parts.TaskParts.{TaskParts}
use Rattle.typing_names.specs.Faults.{tested}
use Rattle.typing_names.specs.Domain.{DomainParts, domain_names}
use Rattle.typing_names.specs.Problem.{ProblemParts, problem_names, facts_in, values_in}
use Rattle.typing_types.specs.Types.{domain_types, problem_types}
use Rattle.typing_linear.specs.Linear.{domain_nonlinearities, goal_nonlinearities}

abbrev pub task_of : DomainParts → ProblemParts → TaskParts
task_of d p = record {
  types = d.types;
  objects = d.objects ++ p.objects;
  preds = d.preds;
  funcs = d.funcs;
  actions = d.actions;
  facts = facts_in p.items;
  values = values_in p.items;
  goal = p.goal;
}

abbrev pub first_among : Fault → List Fault → Option Fault → Fault
first_among f more None = f
first_among f more (Some first) = first

-- the least of some faults
abbrev pub first_fault : Fault → List Fault → Fault
first_fault f more = first_among f more (least None (f ∷ more))

-- a pass over a text: what follows where it has no fault, and else the first of its faults
abbrev pub passed : {A B : Type 0} → Source → Judged A → (A → Result B TextFault) → Result B TextFault
passed file (good a) next = next a
passed file (bad f more) next = Err (text_fault file (first_fault f more))

abbrev pub linear_task : DomainAst → DomainParts → ProblemAst → ProblemParts → Result TaskParts TextFault
linear_task d parts p more =
    passed source.Domain (tested (domain_nonlinearities d.actions)) (λ _.
    passed source.Problem (tested (goal_nonlinearities d.actions p.goal)) (λ _. Ok (task_of parts more)))

abbrev pub problem_link : DomainAst → DomainParts → ProblemAst → Result TaskParts TextFault
problem_link d parts p =
    passed source.Problem (problem_names d p) (λ more.
    passed source.Problem (tested (problem_types d parts p more)) (λ _. linear_task d parts p more))

-- the passes in their order
unfoldable pub link_of : DomainAst → ProblemAst → Result TaskParts TextFault
link_of d p =
    passed source.Domain (domain_names d) (λ parts.
    passed source.Domain (tested (domain_types d parts)) (λ _. problem_link d parts p))

abbrev pub LinkRefuses : Result TaskParts TextFault → TextRefusal → Type 0
LinkRefuses linked (refusal.Fault f) = linked ≡ Err f
LinkRefuses linked refusal.Memory = Unit {0}

-- what linking answers: the task, or the first fault, unless memory ran out
abbrev pub Links : DomainAst → ProblemAst → Result TaskParts TextRefusal → Type 0
Links d p (Ok task) = link_of d p ≡ Ok task
Links d p (Err e) = LinkRefuses (link_of d p) e
