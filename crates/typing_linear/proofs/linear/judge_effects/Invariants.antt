use Rattle.typing_linear.specs.Linear.{effect_nonlinearities}
use Rattle.typing_linear.proofs.Noted.{AreNoted}
use Rattle.typing_linear.proofs.linear.judge_effects.Given as goal

abbrev pub invariant-loop-effect : goal.invariant-loop-effect
invariant-loop-effect l = AreNoted (effect_nonlinearities l.changing) l.effects l.effect-index l.initial.faults l.faults
