use Rattle.typing_linear.proofs.Reading.{AreSoFar}
use Rattle.typing_linear.proofs.linear.+linear.Given as goal

abbrev pub invariant-read_arguments-loop-at : goal.invariant-read_arguments-loop-at
invariant-read_arguments-loop-at l = AreSoFar l.changing l.args l.at l.initial.faults l.faults l.reads.any l.reads.two l.reads.second
