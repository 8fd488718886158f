use Rattle.pddl_form.proofs.Loops.{AreRead}
use Rattle.typing_uses.specs.Expressions.{effect_named}
use Rattle.typing_uses.specs.Names.{scope_of}
use Rattle.typing_uses.proofs.effects.resolve_effects.Given as goal

abbrev pub invariant-loop-effect : goal.invariant-loop-effect
invariant-loop-effect l = AreRead (effect_named (scope_of l.names)) l.effects l.effect-index l.initial.faults l.faults l.found
