use Rattle.std.proofs.Common.{ℕ, refl, subst, arith, ◌∙◌}
use Rattle.clause_core.specs.inside.Handing.{IsOver}
use Rattle.clause_core.proofs.Logs.{handed_none, handed_then, over_then}
use Rattle.clause_core.proofs.solving.run.Goals as goal

pub loop-i-init : goal.loop-i-init
loop-i-init g c = record {
  handed = handed_none g.T.Theory.shown g.T.Theory.cuts c.args.core.formula (g.S.LogSink.stands_for c.args.sink.now);
  none = c.requires;
  pivots = refl;
  later = omega arith;
}

pub loop-i-preserved : goal.loop-i-preserved
loop-i-preserved g c = record {
  handed = handed_then c.loop-i.invariant.handed c.in-Ok.ensures.handed;
  none = c.in-Ok.ensures.none;
  pivots = c.in-Ok.ensures.pivots ∙ c.loop-i.invariant.pivots;
  later = omega (arith, c.in-Ok.ensures.later, c.loop-i.invariant.later);
}

pub returns-in-Err-clause-solved : goal.returns-in-Err-clause-solved
returns-in-Err-clause-solved g c =
    let over = subst (λ (p : ℕ). IsOver g.T.Theory.shown g.T.Theory.stuck g.T.Theory.cuts p c.loop-i.core.formula (g.S.LogSink.stands_for c.loop-i.sink) (g.S.LogSink.stands_for c.turn.new.sink) (g.S.LogSink.stopped_in c.turn.new.sink) (g.S.LogSink.faults c.loop-i.sink) (g.S.LogSink.faults c.turn.new.sink) c.in-Err.answer) c.loop-i.invariant.pivots c.in-Err.ensures.over in
    over_then c.loop-i.invariant.handed over c.loop-i.invariant.later c.args.steps c.loop-i-test.true
