use Rattle.std.proofs.Common.{ap}
use Rattle.pddl_form.specs.declared.spot.Spot.{Spot}
use Rattle.pddl_form.proofs.Loops.{mapped_none, mapped_some}
use Rattle.pddl_domain.proofs.Functions.{head_with}
use Rattle.pddl_domain.proofs.head.read_parameters.Goals as goal

pub returns-in_default : goal.returns-in_default
returns-in_default c = mapped_none _ _ _ _ _ c.in_ok-params.ensures c.in_default.is

pub returns : goal.returns
returns c = mapped_some _ _ _ _ _ _ _ c.in_ok-params.ensures c.in-Some.is (ap (λ (s : Spot). head_with s c.in-Some.params) c.in_ok-name.ensures)
