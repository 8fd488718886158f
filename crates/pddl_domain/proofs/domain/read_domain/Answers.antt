use Rattle.std.proofs.Common.{Option, subst}
use Rattle.sexpr.specs.declared.fault.Source.TheVariants as source
use Rattle.pddl_form.specs.declared.fault.Fault.{Fault}
use Rattle.pddl_form.specs.Concluded.{Answers}
use Rattle.pddl_form.specs.Reading.{IsRead}
use Rattle.pddl_form.proofs.Concluding.{answers, has_outcome}
use Rattle.pddl_form.proofs.Giving.{gives-answer}
use Rattle.pddl_domain.specs.Domain.{domain_form}
use Rattle.pddl_domain.specs.Grammar.{is_domain}
use Rattle.pddl_domain.proofs.Grammar.{domain_gives}
use Rattle.pddl_domain.proofs.domain.read_domain.Goals as goal

pub conclude-requires : goal.conclude-requires
conclude-requires c = has_outcome _ _ _ (subst (λ (o : Option Fault). IsRead (domain_form c.args.tree.now) o c.read_form.new.faults c.in-Ok.made) c.new-faults.ensures c.in-Ok.ensures)

pub returns-in-Ok : goal.returns-in-Ok
returns-in-Ok c =
    let answered : Answers source.Domain (domain_form c.args.tree.now) c.conclude.result =
    answers _ _ _ _ _ (subst (λ (o : Option Fault). IsRead (domain_form c.args.tree.now) o c.read_form.new.faults c.in-Ok.made) c.new-faults.ensures c.in-Ok.ensures) c.conclude.ensures in
    record { answers = answered; grammar = gives-answer is_domain source.Domain (domain_form c.args.tree.now) c.conclude.result (domain_gives c.args.tree.now) answered }
