use Rattle.relaxed.specs.inside.Running.{NoFlags}
use Rattle.relaxed.proofs.making.no_flags.Given as goal

abbrev pub invariant-loop-n : goal.invariant-loop-n
invariant-loop-n l = NoFlags l.n l.flags
