use Rattle.std.proofs.Common.{drop}
use Rattle.encode_rows.proofs.GrowingLaws.{Setting}
use Rattle.encode_rows.proofs.growing.set_variables.Given as goal

abbrev pub invariant-loop-set : goal.invariant-loop-set
invariant-loop-set l = Setting l.w l.sets l.initial.values l.next (drop l.set-index l.sets) l.values
