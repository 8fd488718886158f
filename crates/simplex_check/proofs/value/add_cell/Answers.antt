use Rattle.simplex_check.proofs.Running.{stays}
use Rattle.simplex_check.proofs.value.add_cell.Goals as goal

pub returns-then-is_zero : goal.returns-then-is_zero
returns-then-is_zero c = let z = c.is_zero.ensures.0 c.if-is_zero.true in ((λ d. absurd (d z)), stays _ _ _ z)
