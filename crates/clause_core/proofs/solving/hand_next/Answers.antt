use Rattle.std.proofs.Common.{List, Ok, Err, refl, subst, sym, append-nil}
use Rattle.formula.specs.Contents.{Contents}
use Rattle.formula.specs.Meets.{IsSolution}
use Rattle.theory_law.specs.declared.log.LogStep.{LogStep}
use Rattle.theory_law.specs.Readings.{IsExact}
use Rattle.clause_core.specs.declared.solving.Outcome.TheVariants.{Found}
use Rattle.clause_core.specs.declared.solving.CoreFail.{CoreFail}
use Rattle.clause_core.specs.declared.solving.CoreFail.TheVariants.{Memory}
use Rattle.clause_core.specs.Stepping.{StepHolds}
use Rattle.clause_core.specs.inside.Handing.{IsOver}
use Rattle.clause_core.proofs.Turns.{over_none, over_fail, over_stopped, same_sink}
use Rattle.clause_core.proofs.solving.hand_next.Goals as goal

pub returns-in-Ok-Point-clause-handed : goal.returns-in-Ok-Point-clause-handed
returns-in-Ok-Point-clause-handed g c =
    let next = rw c.in-Ok-Point.field-0-is at c.in-Ok-Point.ensures.next in
    let found = subst (λ (x : Contents). IsSolution x c.in-Ok-Point.point × IsExact x c.in-Ok-Point.point) c.in-Ok-Point.ensures.formula next in
    over_none g.T.Theory.shown g.T.Theory.stuck g.T.Theory.cuts (g.T.Theory.seen c.args.core.now.theory).pivots c.args.core.now.formula (g.S.LogSink.stands_for c.args.sink.now) (g.S.LogSink.stands_for c.args.sink.now) (g.S.LogSink.stopped_in c.args.sink.now) (g.S.LogSink.faults c.args.sink.now) (g.S.LogSink.faults c.args.sink.now) (Ok (Found c.in-Ok-Point.point))
    (same_sink (g.S.LogSink.stands_for c.args.sink.now)) found (λ e. cc)

pub returns-in-Err-clause-handed : goal.returns-in-Err-clause-handed
returns-in-Err-clause-handed g c =
    subst (λ (x : CoreFail). IsOver g.T.Theory.shown g.T.Theory.stuck g.T.Theory.cuts (g.T.Theory.seen c.args.core.now.theory).pivots c.args.core.now.formula (g.S.LogSink.stands_for c.args.sink.now) (g.S.LogSink.stands_for c.args.sink.now) (g.S.LogSink.stopped_in c.args.sink.now) (g.S.LogSink.faults c.args.sink.now) (g.S.LogSink.faults c.args.sink.now) (Err x)) (sym c.of_theory.ensures)
    (over_fail g.T.Theory.shown g.T.Theory.stuck g.T.Theory.cuts (g.T.Theory.seen c.args.core.now.theory).pivots c.args.core.now.formula (g.S.LogSink.stands_for c.args.sink.now) (g.S.LogSink.stopped_in c.args.sink.now) (g.S.LogSink.faults c.args.sink.now) (g.S.LogSink.faults c.args.sink.now) c.in-Err.fail c.in-Err.ensures.trouble)

pub returns-in-Err-Failed-clause-handed : goal.returns-in-Err-Failed-clause-handed
returns-in-Err-Failed-clause-handed g c =
    let next = rw c.in-Ok-Step.field-0-is at c.in-Ok-Step.ensures.next in
    let holds = subst (λ (x : Contents). StepHolds g.T.Theory.shown g.T.Theory.cuts x c.in-Ok-Step.step) c.in-Ok-Step.ensures.formula next.0 in
    let list = rw c.in-Err-Failed.field-0-is at c.in-Err-Failed.ensures.list in
    let failed = rw c.in-Err-Failed.field-0-is at c.in-Err-Failed.ensures.failed in
    over_stopped g.T.Theory.shown g.T.Theory.stuck g.T.Theory.cuts (g.T.Theory.seen c.args.core.now.theory).pivots c.args.core.now.formula (g.S.LogSink.stands_for c.args.sink.now) (g.S.LogSink.stands_for c.step.new.self) (g.S.LogSink.stopped_in c.step.new.self) (g.S.LogSink.faults c.args.sink.now) (g.S.LogSink.faults c.step.new.self) c.in-Ok-Step.step holds list (failed refl)

pub returns-clause-handed : goal.returns-clause-handed
returns-clause-handed g c =
    let list = rw c.in-Err-Memory.field-0-is at c.in-Err-Memory.ensures.list in
    over_none g.T.Theory.shown g.T.Theory.stuck g.T.Theory.cuts (g.T.Theory.seen c.args.core.now.theory).pivots c.args.core.now.formula (g.S.LogSink.stands_for c.args.sink.now) (g.S.LogSink.stands_for c.step.new.self) (g.S.LogSink.stopped_in c.step.new.self) (g.S.LogSink.faults c.args.sink.now) (g.S.LogSink.faults c.step.new.self) (Err Memory)
    (λ l h. subst (λ (x : List (LogStep g.row.T-Why.Denot)). g.S.LogSink.stands_for c.step.new.self x) (sym (append-nil l)) (list l h)) tt (λ e. cc)
