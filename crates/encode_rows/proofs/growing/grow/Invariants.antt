use Rattle.std.proofs.Common.{drop}
use Rattle.encode_rows.proofs.GrowingLaws.{Growing}
use Rattle.encode_rows.proofs.growing.grow.Given as goal

abbrev pub invariant-loop-inc : goal.invariant-loop-inc
invariant-loop-inc l = Growing l.c l.incs l.initial.values (drop l.inc-index l.incs) l.values
