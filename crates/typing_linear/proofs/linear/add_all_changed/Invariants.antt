use Rattle.std.proofs.Common.{take}
use Rattle.std.specs.List.{list_any}
use Rattle.typing_linear.specs.Linear.{changes}
use Rattle.typing_linear.specs.Reads.{AreAlso}
use Rattle.typing_linear.proofs.linear.add_all_changed.Given as goal

abbrev pub invariant-loop-effect : goal.invariant-loop-effect
invariant-loop-effect l = AreAlso l.initial.names l.names (λ func. list_any (changes func) (take l.effect-index l.effects))
