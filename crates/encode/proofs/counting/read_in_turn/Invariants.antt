use Rattle.std.proofs.Common.{drop}
use Rattle.encode.specs.inside.Copying.{actions_of}
use Rattle.encode.proofs.CountingLaws.{Reading}
use Rattle.encode.proofs.counting.read_in_turn.Given as goal

abbrev pub invariant-loop-place : goal.invariant-loop-place
invariant-loop-place l =
    Reading l.p l.initial.formula l.initial.symbols l.initial.counts.items (actions_of l.task l.places) (actions_of l.task (drop l.place-index l.places)) l.formula l.symbols l.counts.items
