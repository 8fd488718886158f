use Rattle.typing_types.specs.Types.{effect_faults}
use Rattle.typing_types.specs.Known.{declared_of}
use Rattle.typing_linear.proofs.Noted.{AreNoted}
use Rattle.typing_types.proofs.types.judge_effects.Given as goal

abbrev pub invariant-loop-effect : goal.invariant-loop-effect
invariant-loop-effect l = AreNoted (effect_faults (declared_of l.known)) l.effects l.effect-index l.initial.faults l.faults
