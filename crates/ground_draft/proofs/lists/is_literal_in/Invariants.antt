use Rattle.std.proofs.Common.{◌≡◌, drop}
use Rattle.ground_numbers.specs.Numbers.{is_listed}
use Rattle.ground_action.specs.GroundAction.{same_literal}
use Rattle.ground_draft.proofs.lists.is_literal_in.Given as goal

abbrev pub invariant-loop-other : goal.invariant-loop-other
invariant-loop-other l = is_listed same_literal l.lits l.lit ≡ is_listed same_literal (drop l.other-index l.lits) l.lit
