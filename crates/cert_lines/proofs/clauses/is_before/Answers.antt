use Rattle.cert_lines.proofs.Order.{decided}
use Rattle.cert_lines.proofs.clauses.is_before.Goals as goal

pub returns-then-digit-y : goal.returns-then-digit-y
returns-then-digit-y c = decided c.args.x.now c.args.y.now c.loop-place.place c.requires.x c.requires.y c.requires.len c.loop-place-test.true c.if-digit-y.true c.loop-place.invariant
