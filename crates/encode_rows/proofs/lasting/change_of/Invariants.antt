use Rattle.encode_rows.proofs.LastingLaws.{Changing}
use Rattle.encode_rows.proofs.lasting.change_of.Given as goal

abbrev pub invariant-loop-inc : goal.invariant-loop-inc
invariant-loop-inc l = Changing l.incs l.l l.sum l.inc-index
