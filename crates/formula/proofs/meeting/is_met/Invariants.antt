use Rattle.std.proofs.Common.{◌≡◌, drop}
use Rattle.std.specs.List.{list_any}
use Rattle.formula.specs.Meets.{is_true}
use Rattle.formula.proofs.meeting.is_met.Given as goal

abbrev pub invariant-loop-l : goal.invariant-loop-l
invariant-loop-l l = list_any (is_true l.truth) l.lits ≡ list_any (is_true l.truth) (drop l.l-index l.lits)
