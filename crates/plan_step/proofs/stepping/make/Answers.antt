use Rattle.std.proofs.Common.{Ok}
use Rattle.std.proofs.lemmas.Result.{err_from_is_err_and}
use Rattle.plan_step.specs.Held.{state_of}
use Rattle.plan_step.proofs.Answering.{unmade, made_after}
use Rattle.plan_step.proofs.Making.{was_before}
use Rattle.plan_step.proofs.StepLaws.{steps_by}
use Rattle.plan_step.proofs.stepping.make.Goals as goal

pub returns-in_err-touches-clause-made : goal.returns-in_err-touches-clause-made
returns-in_err-touches-clause-made c =
    let p = err_from_is_err_and c.from_residual.result c.from_residual.ensures.1 in
    rw (p.1, p.2) (unmade (state_of c.args.state.now) c.args.action.now c.args.args.now c.as_slice-conds.result.now c.as_slice-effs.result.now c.as_slice-conds.ensures c.as_slice-effs.ensures c.in_err-touches.field-0.0 c.in_err-touches.ensures.meant)

pub returns-clause-made : goal.returns-clause-made
returns-clause-made c =
    made_after (state_of c.args.state.now) c.args.action.now c.args.args.now c.as_slice-conds.result.now c.as_slice-effs.result.now c.as_slice-conds.ensures c.as_slice-effs.ensures c.in_ok-touches.touches _ (state_of c.make_places.new.state) (Ok (state_of c.apply.new.state))
    c.in_ok-touches.ensures.meant c.as_slice-2.ensures c.make_places.ensures.same c.in_ok-apply.ensures.applied

pub returns-clause-before : goal.returns-clause-before
returns-clause-before c = was_before c.args.state.now c.make_places.new.state c.apply.new.state c.args.args.now _ _ c.in_ok-touches.touches _ _ c.in_ok-touches.ensures.sound c.as_slice-effs.ensures c.as_slice.ensures c.as_slice-2.ensures c.make_places.ensures.same c.in_ok-make_places.ensures.places c.apply.ensures.keeps c.apply.ensures.differs

pub returns-clause-steps : goal.returns-clause-steps
returns-clause-steps c =
    steps_by (state_of c.args.state.now) (state_of c.make_places.new.state) (state_of c.apply.new.state) c.args.action.now c.args.args.now c.as_slice-conds.result.now c.as_slice-effs.result.now c.in_ok-touches.touches _
    c.as_slice-conds.ensures c.as_slice-effs.ensures c.in_ok-touches.ensures.meant c.as_slice-2.ensures c.make_places.ensures.same c.in_ok-apply.ensures.applied
