use Rattle.std.proofs.Common.{get_or, None}
use Rattle.std.proofs.lemmas.List.Elements.{All-more}
use Rattle.bound_theory.specs.Points.{EventReads}
use Rattle.bound_theory.proofs.PointLaws.{event_reads}
use Rattle.bound_theory.proofs.testing.all_hold.Goals as goal

pub loop-event-preserved : goal.loop-event-preserved
loop-event-preserved c =
    let reads : EventReads c.args.formula.now.counts c.args.formula.now.atoms c.args.values.now (get_or c.args.events.now c.loop-event.event-index None) = c.event_holds.ensures c.if-not-event_holds.false in
    All-more (EventReads c.args.formula.now.counts c.args.formula.now.atoms c.args.values.now) c.args.events.now c.loop-event.event-index None c.loop-event-test.true c.loop-event.invariant reads

pub returns : goal.returns
returns c = λ t. event_reads c.args.formula.now.counts c.args.formula.now.atoms c.args.values.now c.args.events.now c.loop-event.event-index c.loop-event-test.false c.loop-event.invariant
