use Rattle.std.proofs.Common.{◌≡◌, ◌≤◌}
use Rattle.theory_law.specs.Log.{HasEmpty}
use Rattle.clause_core.specs.inside.Handing.{IsHanded}
use Rattle.clause_core.proofs.solving.run.Given as goal

abbrev pub invariant-loop-i : goal.invariant-loop-i
invariant-loop-i g l = record {
  handed : IsHanded g.T.Theory.shown g.T.Theory.cuts l.fn.core.formula l.core.formula (g.S.LogSink.stands_for l.initial.sink) (g.S.LogSink.stands_for l.sink) l.i;
  none : HasEmpty l.core.formula → ⊥;
  pivots : (g.T.Theory.seen l.core.theory).pivots ≡ (g.T.Theory.seen l.fn.core.theory).pivots;
  later : g.S.LogSink.faults l.initial.sink ≤ g.S.LogSink.faults l.sink;
}
