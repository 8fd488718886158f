-- What the texts of a domain and of a problem come to: their task, or their first fault (this project).
use Rattle.std.specs.Prelude.{◌≡◌, ◌⊎◌, ℕ, List, Result, Ok, Err}
use Rattle.sexpr.specs.declared.fault.Source.TheVariants as source
use Rattle.sexpr.specs.declared.fault.TextFault.{TextFault}
use Rattle.pddl_domain.specs.declared.domain.DomainAst.{DomainAst}
use Rattle.pddl_domain.specs.Domain.{domain_form}
use Rattle.pddl_problem.specs.declared.ast.ProblemAst.{ProblemAst}
use Rattle.pddl_problem.specs.Problem.{problem_form}
use Rattle.pddl_task.specs.declared.parts.TaskParts.{TaskParts}
use Rattle.typing.specs.Link.{link_of}
use Rattle.patty_run.specs.Texts.{IsSpelled, IsFault}
use Rattle.patty_run.specs.declared.stop.Stop.{Stop}
use Rattle.patty_run.specs.declared.stop.Stop.TheVariants as stop

-- these bytes spell this domain, and this problem
abbrev pub IsDomain : List ℕ → DomainAst → Type 0
IsDomain bytes domain = IsSpelled domain_form bytes domain

abbrev pub IsProblem : List ℕ → ProblemAst → Type 0
IsProblem bytes problem = IsSpelled problem_form bytes problem

-- the first fault of a domain's text by itself, and of a problem's
abbrev pub IsDomainFault : List ℕ → TextFault → Type 0
IsDomainFault bytes fault = IsFault domain_form source.Domain bytes fault

abbrev pub IsProblemFault : List ℕ → TextFault → Type 0
IsProblemFault bytes fault = IsFault problem_form source.Problem bytes fault

-- two texts spell a domain and a problem, which link to this
pub record Spell (domain problem : List ℕ) (linked : Result TaskParts TextFault) : Type 0 where
  pub first : DomainAst
  pub is_domain : IsDomain domain first
  pub second : ProblemAst
  pub is_problem : IsProblem problem second
  pub links : link_of first second ≡ linked

-- no pass over the two texts has a fault, and this is their task
abbrev pub IsTask : List ℕ → List ℕ → TaskParts → Type 0
IsTask domain problem task = Spell domain problem (Ok task)

-- the fault of a text by itself: that of the domain, or else that of the problem
abbrev pub IsReadFault : List ℕ → List ℕ → TextFault → Type 0
IsReadFault domain problem fault = IsDomainFault domain fault ⊎ (((first : DomainAst) × IsDomain domain first) × IsProblemFault problem fault)

-- why two texts have no task: the first fault, of one by itself, or else of the two together
abbrev pub IsTaskFault : List ℕ → List ℕ → TextFault → Type 0
IsTaskFault domain problem fault = IsReadFault domain problem fault ⊎ Spell domain problem (Err fault)

-- why two texts come to no task: their first fault, unless memory ran out
abbrev pub IsNoTask : List ℕ → List ℕ → Stop → Type 0
IsNoTask domain problem stop.Usage = ⊥
IsNoTask domain problem (stop.ReadFault input) = ⊥
IsNoTask domain problem (stop.Long input) = ⊥
IsNoTask domain problem (stop.Fault fault) = IsTaskFault domain problem fault
IsNoTask domain problem stop.Memory = Unit {0}

-- what reading the two texts answers
abbrev pub ReadsTask : List ℕ → List ℕ → Result TaskParts Stop → Type 0
ReadsTask domain problem (Ok task) = IsTask domain problem task
ReadsTask domain problem (Err why) = IsNoTask domain problem why
