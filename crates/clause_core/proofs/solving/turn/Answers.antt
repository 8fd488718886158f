use Rattle.clause_core.proofs.Turns.{handed_if, over_if}
use Rattle.clause_core.proofs.solving.turn.Goals as goal

pub returns-in-Step-clause-handed : goal.returns-in-Step-clause-handed
returns-in-Step-clause-handed g c =
    let h = c.in-Step.ensures.handed in
    handed_if c.taken.result g.T.Theory.shown g.T.Theory.cuts c.args.core.formula c.hand_next.new.core.formula (g.S.LogSink.stands_for c.args.sink.now) (g.S.LogSink.stands_for c.hand_next.new.sink) c.in-Step.step c.in-Step.ensures.formula h.0 h.2 c.taken.ensures.formula

pub returns-in-Step-clause-over : goal.returns-in-Step-clause-over
returns-in-Step-clause-over g c =
    let h = c.in-Step.ensures.handed in
    over_if c.taken.result g.T.Theory.shown g.T.Theory.stuck g.T.Theory.cuts (g.T.Theory.seen c.args.core.theory).pivots c.args.core.formula c.hand_next.new.core.formula (g.S.LogSink.stands_for c.args.sink.now) (g.S.LogSink.stands_for c.hand_next.new.sink) (g.S.LogSink.stopped_in c.hand_next.new.sink) (g.S.LogSink.faults c.args.sink.now) (g.S.LogSink.faults c.hand_next.new.sink) c.in-Step.step c.in-Step.ensures.formula h.0 h.2 c.taken.ensures.end
