use Rattle.std.proofs.Common.{◌∙◌, ap}
use Rattle.pddl_form.specs.declared.spot.Spot.{Spot}
use Rattle.pddl_condition.specs.declared.condition.CondAst.TheVariants as cond
use Rattle.pddl_form.specs.Typed.{only}
use Rattle.pddl_condition.specs.Condition.{comparison}
use Rattle.pddl_form.proofs.Loops.{mapped_none, mapped_some}
use Rattle.pddl_condition.proofs.condition.read_comparison.Goals as goal

pub returns-in_default : goal.returns-in_default
unfolding comparison
returns-in_default c = mapped_none _ _ _ _ _ c.in_ok-left.ensures c.in_default.is

pub returns : goal.returns
unfolding comparison
returns c = mapped_some _ _ _ _ _ _ _ c.in_ok-left.ensures c.in-Some.is (c.in_ok-leaves.ensures ∙ ap (λ (s : Spot). only (cond.Compare s c.in-Some.left c.in-Some.right)) c.in_ok-rel.ensures)
