use Rattle.relaxed.specs.inside.Running.{NoFirsts}
use Rattle.relaxed.proofs.making.no_firsts.Given as goal

abbrev pub invariant-loop-n : goal.invariant-loop-n
invariant-loop-n l = NoFirsts l.n l.first
