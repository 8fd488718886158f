use Rattle.std.proofs.Common.{◌≡◌, ℤ, ◌*ℤ◌, ap₂, ◌∙◌, sym, subst}
use Rattle.std.specs.Ordering.{int_cmp}
use Rattle.std.specs.declared.cmp.Ordering.{Ordering}
use Rattle.frac128.specs.Order.{Compares}
use Rattle.frac128.proofs.Passed.{read}
use Rattle.frac128.proofs.Order.{Compares-int_cmp}
use Rattle.frac128.proofs.fraction.Frac.cmp.Goals as goal

times : {a b c d : ℤ} → a ≡ c → b ≡ d → a *ℤ b ≡ c *ℤ d
times e f = ap₂ (λ (z w : ℤ). z *ℤ w) e f

pub returns : goal.returns
returns c =
    let x = c.args.self.now in let y = c.args.y.now in
    let e = ap₂ int_cmp (times (read c.num.ensures.within c.num.ensures.value) (read c.den-2.ensures.within c.den-2.ensures.value)) (times (read c.num-2.ensures.within c.num-2.ensures.value) (read c.den.ensures.within c.den.ensures.value)) in
    let P = λ (r : Ordering). Compares x y r in
    subst P (sym (c.compare_cross.ensures ∙ e)) (Compares-int_cmp x y)
