use Rattle.std.proofs.Common.{take}
use Rattle.typing_linear.specs.Reads.{AreChanging}
use Rattle.typing_linear.proofs.linear.Changing.new.Given as goal

abbrev pub invariant-loop-action : goal.invariant-loop-action
invariant-loop-action l = AreChanging (take l.action-index l.actions) l.names
