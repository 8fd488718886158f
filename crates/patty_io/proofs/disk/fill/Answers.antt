use Rattle.std.proofs.Common.{◌≡◌, ◌+◌, length, arith}
use Rattle.patty_io.specs.Shelf.{limit}
use Rattle.patty_io.proofs.Filling.{tells_more}
use Rattle.patty_io.proofs.disk.fill.Goals as goal

pub returns : goal.returns
returns g c =
    let long : length c.loop-piece.into.items ≡ limit + 1 = omega arith in
    (long, tells_more _ _ _ c.loop-piece.invariant.taken long)
