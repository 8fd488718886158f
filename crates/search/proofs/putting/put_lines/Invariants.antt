use Rattle.std.proofs.Common.{◌≡◌, take}
use Rattle.std.specs.Io.KnownBytes.{Appends}
use Rattle.patty_run.specs.Printed.{joined}
use Rattle.search.proofs.putting.put_lines.Given as goal

abbrev pub invariant-loop-line : goal.invariant-loop-line
invariant-loop-line g l = record {
  printed : Appends (g.O.Sink.written l.initial.out) (g.O.Sink.written l.out) (joined (take l.line-index l.lines));
  same : g.O.Sink.faults l.out ≡ g.O.Sink.faults l.initial.out;
}
