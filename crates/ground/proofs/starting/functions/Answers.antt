use Rattle.std.proofs.Common.{[], ◌∷◌, ◌++◌, ◌∙◌, ap}
use Rattle.ground.specs.declared.function.GroundFunc.{GroundFunc}
use Rattle.ground.specs.Grounds.{func_in}
use Rattle.ground.proofs.Lists.{mapped_more}
use Rattle.ground.proofs.starting.functions.Goals as goal

pub loop-number-preserved : goal.loop-number-preserved
loop-number-preserved c =
    mapped_more func_in c.args.funcs.now c.loop-number.number c.get.result.now c.loop-number.functions c.push.new.self c.loop-number.invariant c.get.ensures
    (c.in_ok-push.ensures.ok ∙ ap (λ (f : GroundFunc). c.loop-number.functions ++ f ∷ []) c.in_ok-function.ensures)
