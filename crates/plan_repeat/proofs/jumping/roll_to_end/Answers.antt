use Rattle.std.proofs.Common.{refl}
use Rattle.plan_repeat.proofs.jumping.roll_to_end.Goals as goal

pub returns-in-Err-clause-ends : goal.returns-in-Err-clause-ends
returns-in-Err-clause-ends c = λ s base. let h = c.in-Err.ensures.rolls s base in (c.in-Err.wide, refl, refl, h.0, h.1)
