use Rattle.std.proofs.Common.{true, false, map, ap, sym, ◌∙◌, Ok}
use Rattle.plan_step.specs.State.{PlanState}
use Rattle.plan_step.specs.Held.{state_of}
use Rattle.plan_step.specs.Touches.{changes_of, target_of}
use Rattle.plan_step.specs.inside.Application.{with_truths}
use Rattle.plan_step.proofs.Restoring.{differs_refl, differs_on}
use Rattle.plan_step.proofs.Applying.{after, truths_differ}
use Rattle.plan_step.proofs.application.apply.Goals as goal

pub returns-in-Err-clause-differs : goal.returns-in-Err-clause-differs
returns-in-Err-clause-differs c =
    let old = state_of c.args.state.now in
    differs_refl (map target_of c.args.touches.now) old (state_of c.restore.new.state) (c.restore.ensures.restored old c.requires.kept c.change_values.ensures.differs)

pub returns-clause-applied : goal.returns-clause-applied
returns-clause-applied c =
    let changes = changes_of c.args.touches.now in
    after changes (state_of c.args.state.now) (state_of c.change_values.new.state) c.in_default.ensures.changes.1 c.in_default.ensures.changes.0
    ∙ ap (λ (s : PlanState). Ok s) (sym (c.put_truths-2.ensures.put ∙ ap (with_truths true changes) c.put_truths.ensures.put))

pub returns-clause-differs : goal.returns-clause-differs
returns-clause-differs c =
    let touches = c.args.touches.now in
    let old = state_of c.args.state.now in
    let changed = state_of c.change_values.new.state in
    let deleted = state_of c.put_truths.new.state in
    let new = state_of c.put_truths-2.new.state in
    differs_on (map target_of touches) old deleted new
    (differs_on (map target_of touches) old changed deleted c.change_values.ensures.differs (truths_differ false touches changed deleted c.put_truths.ensures.put))
    (truths_differ true touches deleted new c.put_truths-2.ensures.put)
