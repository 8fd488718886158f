use Rattle.pddl_form.proofs.FirstFaults.{one_syntax}
use Rattle.pddl_domain.specs.Domain.{domain_form}
use Rattle.pddl_domain.proofs.domain.one_domain.Goals as goal

pub returns : goal.returns
returns c = λ tree. one_syntax (domain_form tree)
