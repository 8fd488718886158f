use Rattle.std.proofs.Common.{◌∙◌, ap}
use Rattle.pddl_form.specs.declared.spot.Spot.{Spot}
use Rattle.pddl_form.specs.Typed.{only}
use Rattle.pddl_domain.specs.declared.effect.EffAst.TheVariants as eff
use Rattle.pddl_domain.specs.Effect.{change}
use Rattle.pddl_form.proofs.Loops.{mapped_none, mapped_some}
use Rattle.pddl_domain.proofs.effect.read_change.Goals as goal

pub returns-in_default : goal.returns-in_default
unfolding change
returns-in_default c = mapped_none _ _ _ _ _ c.in_ok-call.ensures c.in_default.is

pub returns : goal.returns
unfolding change
returns c = mapped_some _ _ _ _ _ _ _ c.in_ok-call.ensures c.in-Some.is (c.in_ok-leaves.ensures ∙ ap (λ (s : Spot). only (eff.Change s c.in-Some.call.name c.in-Some.call.args c.in-Some.by)) c.in_ok-op.ensures)
