use Rattle.std.proofs.Common.{◌↔◌, ◌<◌, ◌^◌, ◌-◌, refl, sym, subst}
use Rattle.std.specs.Prelude.{IsTrue}
use Rattle.std.proofs.lemmas.Int.{to_z-of_z, fits_signed_from_abs}
use mir.Syntax.{w128}
use mir.Val.{SFits}
use lib.IntN.{ℤ, pos, nat_abs}
use lib.Signed.{lt_z}
use Rattle.rational.specs.Fraction.{whole, ◌+ℚ◌}
use Rattle.frac128.specs.Bounds.{IsFrac}
use Rattle.cert_check.proofs.Nexts.{next_within}
use Rattle.cert_check.proofs.known.has_next.Goals as goal

pub returns : goal.returns
returns c =
    let f : SFits w128 c.num.result = fits_signed_from_abs w128 c.num.result c.num.ensures.within in
    let low : nat_abs c.args.k.now.num < 2 ^ 127 = subst (λ (z : ℤ). nat_abs z < 2 ^ 127) c.num.ensures.value c.num.ensures.within in
    let says = next_within c.args.k.now (2 ^ 127 - 1) refl c.requires low in
    simp to_z-of_z (subst (λ (z : ℤ). IsTrue (lt_z z (pos (2 ^ 127 - 1))) ↔ IsFrac (c.args.k.now +ℚ whole (pos 1))) (sym c.num.ensures.value) says)
