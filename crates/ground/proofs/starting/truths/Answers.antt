use Rattle.std.proofs.Common.{ℕ, List, [], ◌∷◌, ◌++◌, ◌∙◌, ap}
use Rattle.plan_step.specs.Held.{state_of}
use Rattle.ground.specs.inside.Concluding.{truth_of}
use Rattle.ground.proofs.Lists.{mapped_more}
use Rattle.ground.proofs.starting.truths.Goals as goal

pub loop-number-preserved : goal.loop-number-preserved
loop-number-preserved c =
    mapped_more (truth_of (state_of c.args.start.now)) c.args.atoms.now c.loop-number.number c.get-atom.result.now c.loop-number.truths.items c.push.new.self.items c.loop-number.invariant c.get-atom.ensures
    (c.in_ok-push.ensures.items ∙ ap (λ b. c.loop-number.truths.items ++ b ∷ []) (c.atom.ensures ∙ ap (λ (args : List ℕ). (state_of c.args.start.now).truth c.get-atom.result.now.symbol args) c.as_slice.ensures))
