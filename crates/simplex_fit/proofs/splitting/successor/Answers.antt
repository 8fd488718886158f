use Rattle.std.proofs.Common.{◌<◌, ◌^◌, sym, ap, subst, ◌∙◌}
use Rattle.std.proofs.lemmas.Int.{to_z-of_z, fits_signed_from_abs}
use mir.Syntax.{w128}
use mir.Val.{SFits}
use lib.IntN.{ℤ, pos, nat_abs, ◌+ℤ◌}
use Rattle.rational.specs.Fraction.{quotient}
use Rattle.formula.proofs.Readings.{successor_is, successor_within}
use Rattle.simplex_fit.proofs.splitting.successor.Goals as goal

pub plus_one-requires : goal.plus_one-requires
plus_one-requires c =
    let f : SFits w128 c.num.result = fits_signed_from_abs w128 c.num.result c.num.ensures.within in
    simp to_z-of_z (subst (λ (z : ℤ). nat_abs (z +ℤ pos 1) < 2 ^ 127) (sym c.num.ensures.value) (successor_within c.args.k.now c.requires.whole c.requires.next))

pub returns : goal.returns
returns c =
    let f : SFits w128 c.num.result = fits_signed_from_abs w128 c.num.result c.num.ensures.within in
    let g : SFits w128 c.plus_one.result = fits_signed_from_abs w128 c.plus_one.result c.plus_one.ensures.within in
    simp to_z-of_z at c.ratio.ensures ∙ ap (λ (z : ℤ). quotient z 1) (simp to_z-of_z at c.plus_one.ensures.value ∙ ap (λ (z : ℤ). z +ℤ pos 1) c.num.ensures.value)
    ∙ successor_is c.args.k.now c.requires.whole
