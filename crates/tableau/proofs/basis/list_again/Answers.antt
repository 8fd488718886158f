use Rattle.std.proofs.Common.{length, sym, refl, ◌∙◌, arith}
use Rattle.tableau.specs.inside.Basis.{flag}
use Rattle.tableau.proofs.Listing.{has_room, writing_more}
use Rattle.tableau.proofs.basis.list_again.Goals as goal

pub put-k-requires : goal.put-k-requires
put-k-requires c = has_room (flag c.args.basic.now) (length c.args.basic.now) c.loop-v.v c.loop-v.k c.loop-v.into (c.requires ∙ sym c.loop-v.auto.into) c.loop-v.invariant (omega arith)

pub loop-v-preserved : goal.loop-v-preserved
loop-v-preserved c =
    writing_more (flag c.args.basic.now) (length c.args.basic.now) c.loop-v.v c.loop-v.k c.loop-v.into (c.requires ∙ sym c.loop-v.auto.into) c.loop-v.invariant (omega arith)
    (flag c.args.basic.now c.loop-v.v) refl _ c.put-k.ensures.place _ c.put-k.ensures.written
