-- The names of the task of two texts can be told apart, and so what is written of a plan for it is read as the plan.
use Rattle.std.proofs.Common.{◌≡◌, ℕ, true, List, Result, Ok, refl, subst}
use Rattle.std.specs.List.{All}
use Rattle.sexpr.specs.declared.fault.Source.{Source}
use Rattle.sexpr.specs.declared.fault.Source.TheVariants as source
use Rattle.sexpr.specs.declared.fault.TextFault.{TextFault}
use Rattle.pddl_form.specs.Judged.{Judged, good, bad}
use Rattle.pddl_form.proofs.Giving.{Gives}
use Rattle.pddl_domain.specs.declared.domain.DomainAst.{DomainAst}
use Rattle.pddl_problem.specs.declared.ast.ProblemAst.{ProblemAst}
use Rattle.pddl_task.specs.declared.parts.TaskParts.{TaskParts}
use Rattle.typing_names.specs.Faults.{tested}
use Rattle.typing_names.specs.Domain.{DomainParts, domain_names}
use Rattle.typing_names.specs.Problem.{ProblemParts, problem_names}
use Rattle.typing_types.specs.Types.{domain_types, problem_types}
use Rattle.typing_linear.specs.Linear.{domain_nonlinearities, goal_nonlinearities}
use Rattle.typing.specs.Link.{task_of, passed, linear_task, problem_link, link_of}
use Rattle.plan_form.specs.declared.plan.Part.{Part}
use Rattle.plan_text.specs.Laws.{AreSpelled, HasTextCount}
use Rattle.plan_text.specs.PlanText.{names_of, plan_judged}
use Rattle.plan_form.specs.Printed.{IsPlanOf, plan_text}
use Rattle.plan_text.proofs.RoundTrip.{round_trip}
use Rattle.patty_run.specs.Tasks.{IsDomain, IsProblem, IsTask}
use Rattle.read_back.proofs.LowWords.{text_worded}
use Rattle.read_back.proofs.DomainForms.{is_named_domain, domain_gives}
use Rattle.read_back.proofs.ProblemForms.{is_named_problem, problem_gives}
use Rattle.read_back.proofs.TaskNames.{task_names}

-- ---- the names that texts spell

domain_named : (bytes : List ℕ) (d : DomainAst) → IsDomain bytes d → is_named_domain d ≡ true
domain_named bytes d spelled = subst (Gives is_named_domain) spelled.is (domain_gives spelled.tree (text_worded bytes spelled.tree spelled.text.spelled))

problem_named : (bytes : List ℕ) (p : ProblemAst) → IsProblem bytes p → is_named_problem p ≡ true
problem_named bytes p spelled = subst (Gives is_named_problem) spelled.is (problem_gives spelled.tree (text_worded bytes spelled.tree spelled.text.spelled))

-- ---- the passes in which no fault is found

record PassedGood {A B : Type 0} (j : Judged A) (next : A → Result B TextFault) (b : B) : Type 0 where
  part : A
  part_is : j ≡ good part
  made : next part ≡ Ok b

passed_good : {A B : Type 0} (file : Source) (j : Judged A) (next : A → Result B TextFault) (b : B) → passed file j next ≡ Ok b → PassedGood j next b
passed_good file (good a) next b is = record { part = a; part_is = refl; made = is }
passed_good file (bad f more) next b is = absurd (cc is)

-- the names of both texts, of which the task is made
record IsLinked (d : DomainAst) (p : ProblemAst) (task : TaskParts) : Type 0 where
  parts : DomainParts
  more : ProblemParts
  domain : domain_names d ≡ good parts
  problem : problem_names d p ≡ good more
  made : task_of parts more ≡ task

linear_made : (d : DomainAst) (parts : DomainParts) (p : ProblemAst) (more : ProblemParts) (task : TaskParts) → linear_task d parts p more ≡ Ok task → task_of parts more ≡ task
linear_made d parts p more task is =
    let a = passed_good source.Domain (tested (domain_nonlinearities d.actions)) (λ u. passed source.Problem (tested (goal_nonlinearities d.actions p.goal)) (λ v. Ok (task_of parts more))) task is in
    let b = passed_good source.Problem (tested (goal_nonlinearities d.actions p.goal)) (λ v. Ok (task_of parts more)) task a.made in
    cc (b.made)

linked : (d : DomainAst) (p : ProblemAst) (task : TaskParts) → link_of d p ≡ Ok task → IsLinked d p task
unfolding link_of
linked d p task is =
    let a = passed_good source.Domain (domain_names d) (λ parts. passed source.Domain (tested (domain_types d parts)) (λ u. problem_link d parts p)) task is in
    let b = passed_good source.Domain (tested (domain_types d a.part)) (λ u. problem_link d a.part p) task a.made in
    let c = passed_good source.Problem (problem_names d p) (λ more. passed source.Problem (tested (problem_types d a.part p more)) (λ u. linear_task d a.part p more)) task b.made in
    let e = passed_good source.Problem (tested (problem_types d a.part p c.part)) (λ u. linear_task d a.part p c.part) task c.made in
    record { parts = a.part; more = c.part; domain = a.part_is; problem = c.part_is; made = linear_made d a.part p c.part task e.made }

-- ---- the laws

pub names_spelled : (domain problem : List ℕ) (task : TaskParts) → IsTask domain problem task → AreSpelled (names_of task)
names_spelled domain problem task is =
    let l = linked is.first is.second task is.links in
    subst (λ (t : TaskParts). AreSpelled (names_of t)) l.made
    (task_names is.first l.parts is.second l.more l.domain l.problem (domain_named domain is.first is.is_domain) (problem_named problem is.second is.is_problem))

pub plan_read : (domain problem : List ℕ) (task : TaskParts) (plan : List Part) → IsTask domain problem task → IsPlanOf task plan → All HasTextCount plan → plan_judged (names_of task) (plan_text task plan) ≡ good plan
plan_read domain problem task plan is numbers counts = round_trip task plan (names_spelled domain problem task is) numbers counts
