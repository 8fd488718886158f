use Rattle.relaxed.specs.inside.Running.{IsAt}
use Rattle.relaxed.proofs.making.run.Given as goal

abbrev pub invariant-loop-layer : goal.invariant-loop-layer
invariant-loop-layer l = IsAt l.task l.layer l.table l.flags l.first
