-- The literal is bound and static, and its truth is that of the start.
use Rattle.std.proofs.Common.{◌∙◌, sym, ap}
use Rattle.std.specs.List.{list_all}
use Rattle.plan_step.specs.Held.{state_of}
use Rattle.plan_step.specs.Meaning.{objects_of, signed}
use Rattle.ground_instances.specs.inside.Open.{is_bound, met_so_far}
use Rattle.ground_instances.proofs.Literals.{lit_met}
use Rattle.ground_instances.proofs.meeting.meets.Goals as goal

pub returns-then-are_bound : goal.returns-then-are_bound
returns-then-are_bound c =
    lit_met c.args.task.now (state_of c.args.start.now) c.args.args.now c.in-Lit.pos c.in-Lit.pred c.in-Lit.terms c.as_slice-then-are_bound-2.result.now c.signed.result
    c.requires.start
    (c.as_slice-then-are_bound-2.ensures ∙ c.in_ok-objects-in-Lit.ensures ∙ ap (objects_of c.args.args.now) c.as_slice-then-are_bound.ensures)
    (ap (list_all (is_bound _)) (sym c.as_slice.ensures) ∙ sym c.are_bound.ensures ∙ c.if-are_bound.true)
    (sym c.changing_pred.ensures ∙ c.if-changing_pred.false)
    (c.signed.ensures ∙ ap (signed c.in-Lit.pos) c.atom-holds.ensures)
    ∙ ap (met_so_far c.args.task.now c.args.args.now) (sym c.in-Lit.is)
