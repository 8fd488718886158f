use Rattle.std.proofs.Common.{length}
use Rattle.patty_io.proofs.Filling.{Written}
use Rattle.patty_io.proofs.out_sink.write_whole.Given as goal

abbrev pub invariant-loop-rest : goal.invariant-loop-rest
invariant-loop-rest g l = Written (g.W.Write.contents l.initial.out) (g.W.Write.contents l.out) l.fn.bytes l.rest

abbrev pub decreases-loop-rest : goal.decreases-loop-rest
decreases-loop-rest g l = length l.rest
