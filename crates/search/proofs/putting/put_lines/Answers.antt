use Rattle.std.proofs.Common.{ℕ, Err, subst, ◌∙◌}
use Rattle.patty_io.specs.Sink.{PutCounts}
use Rattle.search.proofs.PutLaws.{put_more, put_stops}
use Rattle.search.proofs.putting.put_lines.Goals as goal

pub loop-line-preserved : goal.loop-line-preserved
loop-line-preserved g c = record {
  printed = put_more _ _ _ _ _ _ _ c.loop-line-test.true (c.as_slice.ensures ∙ c.line-item.is) c.loop-line.invariant.printed c.in-Ok.ensures.bytes;
  same = c.in-Ok.ensures.cause ∙ c.loop-line.invariant.same;
}

pub returns-in-Err : goal.returns-in-Err
returns-in-Err g c =
    let counts = subst (λ (before : ℕ). PutCounts {T = Unit {0}} before (g.O.Sink.faults c.put.new.self) (Err c.in-Err.fail)) c.loop-line.invariant.same c.in-Err.ensures.cause in
    put_stops _ _ _ _ _ _ _ c.loop-line-test.true (c.as_slice.ensures ∙ c.line-item.is) c.loop-line.invariant.printed _ _ c.in-Err.fail c.in-Err.ensures.bytes counts
