-- Two texts come to one thing: their task, or their first fault.
use Rattle.std.proofs.Common.{◌≡◌, inl, inr, ℕ, List, Result, Ok, Err, sym, ◌∙◌, ap}
use Rattle.sexpr.specs.declared.fault.Source.TheVariants as source
use Rattle.sexpr.specs.declared.fault.TextFault.{TextFault}
use Rattle.pddl_problem.specs.declared.ast.ProblemAst.{ProblemAst}
use Rattle.pddl_problem.specs.Problem.{problem_form}
use Rattle.pddl_domain.specs.declared.domain.DomainAst.{DomainAst}
use Rattle.pddl_domain.specs.Domain.{domain_form}
use Rattle.pddl_task.specs.declared.parts.TaskParts.{TaskParts}
use Rattle.typing.specs.Link.{link_of}
use Rattle.patty_run.proofs.TextLaws.{one_syntax, fault_not, one_fault}
use Rattle.patty_run.specs.Tasks.{IsDomain, IsProblem, IsDomainFault, IsProblemFault, Spell, IsTask, IsReadFault, IsTaskFault}

domain_fault_not : (bytes : List ℕ) (fault : TextFault) (domain : DomainAst) → IsDomainFault bytes fault → IsDomain bytes domain → ⊥
domain_fault_not bytes fault domain is also = fault_not domain_form bytes source.Domain fault domain is also

problem_fault_not : (bytes : List ℕ) (fault : TextFault) (problem : ProblemAst) → IsProblemFault bytes fault → IsProblem bytes problem → ⊥
problem_fault_not bytes fault problem is also = fault_not problem_form bytes source.Problem fault problem is also

-- texts that are both spelled link to one thing
one_link : (domain problem : List ℕ) (a b : Result TaskParts TextFault) → Spell domain problem a → Spell domain problem b → a ≡ b
one_link domain problem a b is also =
    let first = one_syntax domain_form domain is.first also.first is.is_domain also.is_domain in
    let second = one_syntax problem_form problem is.second also.second is.is_problem also.is_problem in
    sym is.links ∙ ap (λ (d : DomainAst). link_of d is.second) first ∙ ap (λ (p : ProblemAst). link_of also.first p) second ∙ also.links

-- and have no fault by themselves
spelled_not : (domain problem : List ℕ) (fault : TextFault) (linked : Result TaskParts TextFault) → IsReadFault domain problem fault → Spell domain problem linked → ⊥
spelled_not domain problem fault linked (inl is) spell = domain_fault_not domain fault spell.first is spell.is_domain
spelled_not domain problem fault linked (inr is) spell = problem_fault_not problem fault spell.second is.1 spell.is_problem

pub one_task : (domain problem : List ℕ) (t u : TaskParts) → IsTask domain problem t → IsTask domain problem u → t ≡ u
one_task domain problem t u is also = let same = one_link domain problem (Ok t) (Ok u) is also in cc (same)

task_or_fault : (domain problem : List ℕ) (t : TaskParts) (f : TextFault) → Spell domain problem (Ok t) → Spell domain problem (Err f) → ⊥
task_or_fault domain problem t f is also = let same = one_link domain problem (Ok t) (Err f) is also in cc (same)

-- two texts that have a first fault have no task
pub fault_no_task : (domain problem : List ℕ) (fault : TextFault) (t : TaskParts) → IsTaskFault domain problem fault → IsTask domain problem t → ⊥
fault_no_task domain problem fault t (inl is) task = spelled_not domain problem fault (Ok t) is task
fault_no_task domain problem fault t (inr is) task = task_or_fault domain problem t fault task is

one_read : (domain problem : List ℕ) (f g : TextFault) → IsReadFault domain problem f → IsReadFault domain problem g → f ≡ g
one_read domain problem f g (inl is) (inl also) = one_fault domain_form domain source.Domain f g is also
one_read domain problem f g (inl is) (inr also) = absurd (domain_fault_not domain f also.0.0 is also.0.1)
one_read domain problem f g (inr is) (inl also) = absurd (domain_fault_not domain g is.0.0 also is.0.1)
one_read domain problem f g (inr is) (inr also) = one_fault problem_form problem source.Problem f g is.1 also.1

pub one_first : (domain problem : List ℕ) (f g : TextFault) → IsTaskFault domain problem f → IsTaskFault domain problem g → f ≡ g
one_first domain problem f g (inl is) (inl also) = one_read domain problem f g is also
one_first domain problem f g (inl is) (inr also) = absurd (spelled_not domain problem f (Err g) is also)
one_first domain problem f g (inr is) (inl also) = absurd (spelled_not domain problem g (Err f) also is)
one_first domain problem f g (inr is) (inr also) = let same = one_link domain problem (Err f) (Err g) is also in cc (same)
