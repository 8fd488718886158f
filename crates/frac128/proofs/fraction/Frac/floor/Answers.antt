use Rattle.std.proofs.Common.{ℤ, rules, sym, ap₂, subst, ◌∙◌}
use Rattle.std.proofs.lemmas.Int.{to_z-of_z}
use mir.Syntax.{w128}
use mir.Val.{SFits}
use Rattle.std.specs.Int.{int_div_euclid}
use Rattle.frac128.specs.Order.{IsFloor}
use Rattle.frac128.proofs.Passed.{read}
use Rattle.frac128.proofs.Order.{IsFloor-div_euclid}
use Rattle.frac128.proofs.fraction.Frac.floor.Goals as goal

pub returns : goal.returns
returns c =
    let x = c.args.self.now in let f : SFits w128 c.div_euclid.result = search rules in
    let e = ap₂ int_div_euclid (read c.num.ensures.within c.num.ensures.value) (read c.den.ensures.within c.den.ensures.value) in
    let P = λ (z : ℤ). IsFloor x z in
    subst P (sym (to_z-of_z w128 _ f ∙ c.div_euclid.ensures ∙ e)) (IsFloor-div_euclid x)
