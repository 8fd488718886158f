-- What the passes over names hand on: the parts, the tables of their names, and the types above each type. Only private
-- functions' clauses cite these words.
use Rattle.std.specs.Prelude.{◌≡◌, List, [], ◌++◌, IsTrue}
use Rattle.pddl_domain.specs.declared.domain.DomainAst.{DomainAst}
use Rattle.pddl_problem.specs.declared.ast.ProblemAst.{ProblemAst}
use Rattle.sexpr.specs.declared.fault.TextRefusal.{TextRefusal}
use Rattle.pddl_problem.specs.Grammar.{is_problem}
use Rattle.pddl_form.specs.Judged.{good}
use Rattle.pddl_task.specs.declared.declared.Object.{Object}
use Rattle.pddl_task.specs.Task.{parents}
use Rattle.typing_names.specs.declared.domain.DomainNames.{DomainNames}
use Rattle.typing_names.specs.declared.problem.ProblemNames.{ProblemNames}
use Rattle.typing_names.specs.Domain.{DomainParts, domain_names, domain_scope}
use Rattle.typing_names.specs.Problem.{ProblemParts, problem_names, problem_scope}
use Rattle.typing_names.specs.Faults.{tested}
use Rattle.typing_linear.specs.Linear.{domain_nonlinearities, goal_nonlinearities}
use Rattle.typing_types.specs.Types.{Declared, domain_types, problem_types}
use Rattle.typing_names.specs.Tables.{scope_in, parts_of, problem_parts_of}
use Rattle.typing.specs.Link.{linear_task, LinkRefuses}

-- the names of a domain
pub record IsResolved (d : DomainAst) (made : DomainNames) : Type 0 where
  pub parts : domain_names d ≡ good (parts_of made)
  pub tables : scope_in made.tables ≡ domain_scope d
  pub hierarchy : made.hierarchy ≡ parents made.types

-- and those of a problem of the grammar, whose objects are in the tables too
pub record AreResolved (d : DomainAst) (p : ProblemAst) (made : DomainNames) (more : ProblemNames) : Type 0 where
  pub grammar : IsTrue (is_problem p)
  pub domain : domain_names d ≡ good (parts_of made)
  pub problem : problem_names d p ≡ good (problem_parts_of more)
  pub tables : scope_in made.tables ≡ problem_scope d p
  pub hierarchy : made.hierarchy ≡ parents made.types

-- the passes over linearity have found no fault
pub record AreLinear (d : DomainAst) (p : ProblemAst) : Type 0 where
  pub domain : tested (domain_nonlinearities d.actions) ≡ good tt
  pub goal : tested (goal_nonlinearities d.actions p.goal) ≡ good tt

-- what they refuse, whatever the names came to
abbrev pub LinearityRefuses : DomainAst → ProblemAst → TextRefusal → Type 0
LinearityRefuses d p e = (parts : DomainParts) (more : ProblemParts) → LinkRefuses (linear_task d parts p more) e

-- and the passes over types and over linearity have found no fault
pub record AreFaultless (d : DomainAst) (p : ProblemAst) (made : DomainNames) (more : ProblemNames) : Type 0 where
  pub domain_types : tested (domain_types d (parts_of made)) ≡ good tt
  pub problem_types : tested (problem_types d (parts_of made) p (problem_parts_of more)) ≡ good tt
  pub domain_linear : tested (domain_nonlinearities d.actions) ≡ good tt
  pub goal_linear : tested (goal_nonlinearities d.actions p.goal) ≡ good tt

-- what the passes over types know by the names of a domain, and the objects of a problem
abbrev pub declared_in : DomainNames → List Object → Declared
declared_in made objects = record { scope = scope_in made.tables; above = made.hierarchy; objects = made.objects ++ objects; preds = made.preds; funcs = made.funcs; params = [] }
