use Rattle.typing_types.specs.Types.{item_faults}
use Rattle.typing_types.specs.Known.{declared_of}
use Rattle.typing_linear.proofs.Noted.{AreNoted}
use Rattle.typing_types.proofs.given.judge_init.Given as goal

abbrev pub invariant-loop-item : goal.invariant-loop-item
invariant-loop-item l = AreNoted (item_faults (declared_of l.known)) l.init l.item-index l.initial.faults l.faults
