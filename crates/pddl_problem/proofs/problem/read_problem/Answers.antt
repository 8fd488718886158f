use Rattle.std.proofs.Common.{Option, subst}
use Rattle.sexpr.specs.declared.fault.Source.TheVariants as source
use Rattle.pddl_form.specs.declared.fault.Fault.{Fault}
use Rattle.pddl_form.specs.Concluded.{Answers}
use Rattle.pddl_form.specs.Reading.{IsRead}
use Rattle.pddl_form.proofs.Concluding.{answers, has_outcome}
use Rattle.pddl_form.proofs.Giving.{gives-answer}
use Rattle.pddl_problem.specs.Problem.{problem_form}
use Rattle.pddl_problem.specs.Grammar.{is_problem}
use Rattle.pddl_problem.proofs.Grammar.{problem_gives}
use Rattle.pddl_problem.proofs.problem.read_problem.Goals as goal

pub conclude-requires : goal.conclude-requires
conclude-requires c = has_outcome _ _ _ (subst (λ (o : Option Fault). IsRead (problem_form c.args.tree.now) o c.read_form.new.faults c.in-Ok.made) c.new-faults.ensures c.in-Ok.ensures)

pub returns-in-Ok : goal.returns-in-Ok
returns-in-Ok c =
    let answered : Answers source.Problem (problem_form c.args.tree.now) c.conclude.result =
    answers _ _ _ _ _ (subst (λ (o : Option Fault). IsRead (problem_form c.args.tree.now) o c.read_form.new.faults c.in-Ok.made) c.new-faults.ensures c.in-Ok.ensures) c.conclude.ensures in
    record { answers = answered; grammar = gives-answer is_problem source.Problem (problem_form c.args.tree.now) c.conclude.result (problem_gives c.args.tree.now) answered }
