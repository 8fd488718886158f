use Rattle.std.proofs.Common.{arith}
use Rattle.ground_check.proofs.ValueAtoms.{tells_from, nothing_left}
use Rattle.ground_check.proofs.values.tells_of_all.Goals as goal

pub returns : goal.returns
returns c e =
    tells_from c.args.a.now c.args.first c.args.funcs.now
    (c.loop-f.invariant.0 (nothing_left c.args.a.now c.loop-f.p c.loop-f.f c.loop-f.f c.args.funcs.now (omega (arith, c.loop-f-test.false))))
