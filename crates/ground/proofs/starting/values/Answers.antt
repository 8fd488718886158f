use Rattle.std.proofs.Common.{ℕ, List, [], ◌∷◌, ◌++◌, ◌∙◌, ap}
use Rattle.plan_step.specs.Held.{state_of}
use Rattle.ground_action.specs.Setting.{value_in}
use Rattle.ground.proofs.Lists.{mapped_more}
use Rattle.ground.proofs.starting.values.Goals as goal

pub loop-number-preserved : goal.loop-number-preserved
loop-number-preserved c =
    mapped_more (value_in (state_of c.args.start.now)) c.args.funcs.now c.loop-number.number c.get-func.result.now c.loop-number.values.items c.push.new.self.items c.loop-number.invariant c.get-func.ensures
    (c.in_ok-push.ensures.items ∙ ap (λ v. c.loop-number.values.items ++ v ∷ []) (c.value.ensures ∙ ap (λ (args : List ℕ). (state_of c.args.start.now).value c.get-func.result.now.symbol args) c.as_slice.ensures))
