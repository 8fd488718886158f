use Rattle.std.proofs.Common.{ℕ, List, map, sym, ap, subst, ◌∙◌}
use Rattle.plan_step.specs.Held.{state_of}
use Rattle.plan_step.specs.Touches.{Target, target_of, target_in, DiffersIn}
use Rattle.plan_step.proofs.Fitting.{same_state, targets_fit}
use Rattle.plan_step.proofs.Making.{undo_all}
use Rattle.plan_repeat.proofs.Beginning.{is-begun}
use Rattle.plan_repeat.proofs.RepeatLaws.{first-fails}
use Rattle.plan_repeat.proofs.repeating.repeat_action.Goals as goal

pub returns-in-Err : goal.returns-in-Err
returns-in-Err c =
    let old = state_of c.args.state.now in
    let new = state_of c.make.new.state in (
      first-fails c.args.task.now c.args.by.now old c.args.times c.requires.some c.args.action.now c.as_slice.result.now new c.in-Err.fail c.requires.fits c.as_slice.ensures c.in-Err.ensures.made,
      same_state _ old new c.in-Err.fail c.in-Err.ensures.made,
    )

pub repeat_after-requires-clause-targets : goal.repeat_after-requires-clause-targets
repeat_after-requires-clause-targets c =
    ap (map target_of) c.as_slice-2.ensures ∙ c.in-Ok.ensures.before.targets_are
    ∙ ap (λ (args : List ℕ). map (target_in args) c.args.action.now.effs) c.as_slice.ensures
    ∙ sym (targets_fit c.args.task.now c.args.by.now c.args.action.now c.requires.fits)

pub returns-in-Err-repeat_after : goal.returns-in-Err-repeat_after
returns-in-Err-repeat_after c =
    let old = state_of c.args.state.now in
    let first = state_of c.make.new.state in
    let after = state_of c.repeat_after.new.state in
    let same = targets_fit c.args.task.now c.args.by.now c.args.action.now c.requires.fits ∙ ap (λ (args : List ℕ). map (target_in args) c.args.action.now.effs) (sym c.as_slice.ensures) in (
      c.in-Err-repeat_after.ensures.repeats old
          (is-begun c.args.task.now c.args.by.now c.args.action.now c.as_slice.result.now c.in-Ok.touches c.as_slice-2.result.now old first c.requires.fits c.as_slice.ensures c.as_slice-2.ensures
          c.in-Ok.ensures.steps c.in-Ok.ensures.before.kept c.in-Ok.ensures.targets),
      undo_all _ old c.make.new.state c.repeat_after.new.state c.in-Ok.touches _ c.in-Ok.ensures.before c.as_slice-in-Err-repeat_after.ensures (state_of c.restore.new.state)
          (subst (λ (targets : List Target). DiffersIn targets first after) same c.repeat_after.ensures.differs) c.restore.ensures.restored,
    )

pub returns : goal.returns
returns c =
    let old = state_of c.args.state.now in
    let first = state_of c.make.new.state in
    c.in_default.ensures.repeats old
    (is-begun c.args.task.now c.args.by.now c.args.action.now c.as_slice.result.now c.in-Ok.touches c.as_slice-2.result.now old first c.requires.fits c.as_slice.ensures c.as_slice-2.ensures
    c.in-Ok.ensures.steps c.in-Ok.ensures.before.kept c.in-Ok.ensures.targets)
