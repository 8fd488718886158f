use Rattle.std.proofs.Common.{◌-◌}
use Rattle.encode_laws.specs.Encoding.{copies}
use Rattle.encode.specs.inside.Copying.{actions_of}
use Rattle.encode.proofs.CopyingLaws.{Gone}
use Rattle.encode.proofs.copying.occur_copies.Given as goal

abbrev pub invariant-loop-copy : goal.invariant-loop-copy
invariant-loop-copy l = Gone l.initial.formula l.initial.symbols (actions_of l.task (copies l.n l.places)) (actions_of l.task (copies (l.n - l.copy) l.places)) l.formula l.symbols
