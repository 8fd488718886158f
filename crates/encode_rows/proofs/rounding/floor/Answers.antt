use Rattle.std.proofs.Common.{◌∙◌, ◌^◌, subst, ap, ◌<◌}
use Rattle.std.specs.Prelude.{unsigned_abs}
use Rattle.std.proofs.lemmas.Int.{to_z-of_z}
use mir.Syntax.{w128}
use mir.Val.{SFits}
use lib.IntN.{ℤ}
use Rattle.rational.specs.Fraction.{whole}
use Rattle.encode_rows.proofs.RoundingLaws.{floor_is_found, floor_in_range}
use Rattle.encode_rows.proofs.rounding.floor.Goals as goal

pub unreachable-requires : goal.unreachable-requires
unreachable-requires c =
    let f : SFits w128 c.floor.result = record { sfits = c.floor.type_inv } in
    floor_in_range (2 ^ 127) c.args.b.now c.floor.result (subst (λ (z : ℤ). unsigned_abs z < 2 ^ 127) c.num-numerator.ensures.value c.num-numerator.ensures.within) c.floor.ensures
    (simp to_z-of_z at (c.whole.ensures.none.0 c.in-None.is))

pub returns : goal.returns
returns c =
    let f : SFits w128 c.floor.result = record { sfits = c.floor.type_inv } in
    simp to_z-of_z at c.in-Some.ensures.value ∙ ap whole (floor_is_found c.args.b.now c.floor.result c.floor.ensures)
