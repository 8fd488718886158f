use Rattle.std.proofs.Common.{drop}
use Rattle.encode.specs.inside.Copying.{actions_of}
use Rattle.encode.proofs.CopyingLaws.{Gone}
use Rattle.encode.proofs.copying.occur_once.Given as goal

abbrev pub invariant-loop-place : goal.invariant-loop-place
invariant-loop-place l = Gone l.initial.formula l.initial.symbols (actions_of l.task l.places) (actions_of l.task (drop l.place-index l.places)) l.formula l.symbols
