use Rattle.std.proofs.Common.{ℕ, Err, subst, ◌∙◌}
use Rattle.patty_io.specs.Sink.{PutCounts}
use Rattle.patty_run.proofs.PrintLaws.{put_more, put_stops}
use Rattle.patty_run.proofs.printing.put_all.Goals as goal

pub loop-piece-preserved : goal.loop-piece-preserved
loop-piece-preserved g c = record {
  printed = put_more _ _ _ _ _ _ _ c.loop-piece-test.true c.as_bytes.ensures.value c.loop-piece.invariant.printed c.in-Ok.ensures.bytes;
  same = c.in-Ok.ensures.cause ∙ c.loop-piece.invariant.same;
}

pub returns-in-Err : goal.returns-in-Err
returns-in-Err g c =
    let counts = subst (λ (before : ℕ). PutCounts {T = Unit {0}} before (g.O.Sink.faults c.put.new.self) (Err c.in-Err.fail)) c.loop-piece.invariant.same c.in-Err.ensures.cause in
    put_stops _ _ _ _ _ _ _ c.loop-piece-test.true c.as_bytes.ensures.value c.loop-piece.invariant.printed _ _ c.in-Err.fail c.in-Err.ensures.bytes counts
