use Rattle.patty_run.specs.Outside.{output_seen}
use Rattle.search.specs.inside.Going.{IsGoing}
use Rattle.search.proofs.searching.plan_layered.Given as goal

abbrev pub invariant-loop-n : goal.invariant-loop-n
invariant-loop-n g l = IsGoing (output_seen g.O.Sink.written g.O.Sink.faults l.fn.out l.out) l.task l.limits l.opened.pattern l.n
