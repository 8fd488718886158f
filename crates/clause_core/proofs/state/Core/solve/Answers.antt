use Rattle.std.proofs.Common.{refl}
use Rattle.clause_core.proofs.Turns.{empty_at_once}
use Rattle.clause_core.proofs.state.Core.solve.Goals as goal

pub returns-then-has_empty-clause-solved : goal.returns-then-has_empty-clause-solved
returns-then-has_empty-clause-solved g c =
    empty_at_once g.T.Theory.shown g.T.Theory.stuck g.T.Theory.cuts (g.T.Theory.seen c.args.self.theory).pivots c.args.self.formula (g.S.LogSink.stands_for c.args.sink.now) (g.S.LogSink.stopped_in c.args.sink.now) (g.S.LogSink.faults c.args.sink.now) (g.S.LogSink.faults c.args.sink.now) c.args.steps (c.if-has_empty.ensures.0 refl)
