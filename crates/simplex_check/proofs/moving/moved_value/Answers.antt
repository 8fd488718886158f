use Rattle.simplex_check.proofs.Knowing.{says_still}
use Rattle.simplex_check.proofs.moving.moved_value.Goals as goal

pub returns-then-is_zero : goal.returns-then-is_zero
returns-then-is_zero c y d h g = says_still c.args.x.now c.args.c.now (c.is_zero.ensures.0 c.if-is_zero.true) y d h
