use Rattle.std.proofs.Common.{ap}
use Rattle.pddl_form.specs.Calls.{arguments, called}
use Rattle.pddl_form.specs.declared.spot.Spot.{Spot}
use Rattle.pddl_form.proofs.Loops.{mapped_none, mapped_some}
use Rattle.pddl_form.proofs.calls.read_arguments.Goals as goal

pub returns-in_default : goal.returns-in_default
unfolding arguments
returns-in_default c = mapped_none _ _ _ _ _ c.in_ok-args.ensures c.in_default.is

pub returns : goal.returns
unfolding arguments
returns c = mapped_some _ _ _ _ _ _ _ c.in_ok-args.ensures c.in-Some.is (ap (λ (s : Spot). called s c.in-Some.args) c.in_ok-name.ensures)
