use Rattle.std.proofs.Common.{arith}
use Rattle.relaxed.proofs.Dropping.{same_lists}
use Rattle.relaxed.proofs.same.are_same_flags.Goals as goal

pub returns : goal.returns
returns c e = same_lists c.args.a.now c.args.b.now (omega arith) (λ n d l. c.loop-i.invariant n d (omega arith))
