use Rattle.std.proofs.Common.{◌≡◌, take, map}
use Rattle.std.specs.Io.KnownBytes.{Appends}
use Rattle.patty_run.specs.Printed.{joined}
use Rattle.patty_run.proofs.printing.put_all.Given as goal

abbrev pub invariant-loop-piece : goal.invariant-loop-piece
invariant-loop-piece g l = record {
  printed : Appends (g.O.Sink.written l.initial.out) (g.O.Sink.written l.out) (joined (map (λ r. r.now) (take l.piece-index l.pieces)));
  same : g.O.Sink.faults l.out ≡ g.O.Sink.faults l.initial.out;
}
