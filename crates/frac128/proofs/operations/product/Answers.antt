use Rattle.std.proofs.Common.{◌≡◌, ℤ, ◌*ℤ◌, refl, ap₂, ◌∙◌}
use Rattle.rational.specs.Fraction.{◌*ℚ◌}
use Rattle.rational.proofs.MulLaws.{IsLowest, IsLowest-at, mul_lowest}
use Rattle.frac128.proofs.Named.{product_num_past, product_den_past, product_within, whole_product_past, whole_product}
use Rattle.frac128.proofs.Passed.{passed, read, kept, read_within}
use Rattle.frac128.proofs.operations.product.Goals as goal
use Rattle.frac128.proofs.operations.product.Goals.{After-crosswise-c}

times : {a b c d : ℤ} → a ≡ c → b ≡ d → a *ℤ b ≡ c *ℤ d
times e f = ap₂ (λ (z w : ℤ). z *ℤ w) e f

pub returns-in_err-times : goal.returns-in_err-times
returns-in_err-times c =
    let e = times (read c.num.ensures.within c.num.ensures.value) (read c.num-then-is_whole-2.ensures.within c.num-then-is_whole-2.ensures.value) in
    rw c.from_residual.ensures (whole_product_past c.args.x.now c.args.y.now _ (c.if-is_whole.ensures.0 refl) (c.if-is_whole-2.ensures.0 refl) e c.in_err-times.ensures)

pub returns-then-is_whole-2 : goal.returns-then-is_whole-2
returns-then-is_whole-2 c =
    let e = times (read c.num.ensures.within c.num.ensures.value) (read c.num-then-is_whole-2.ensures.within c.num-then-is_whole-2.ensures.value) in
    let r = whole_product c.args.x.now c.args.y.now _ (c.if-is_whole.ensures.0 refl) (c.if-is_whole-2.ensures.0 refl) (kept c.in_ok-times.ensures e) (read_within c.in_ok-times.ensures) in
    (r.0, c.whole_number.ensures ∙ r.1)

pub returns-in_err-num : goal.returns-in_err-num
returns-in_err-num c =
    let p = c.crosswise-a.ensures in let q = c.crosswise-c.ensures in
    rw c.from_residual-in_err-num.ensures (product_num_past c.args.x.now c.args.y.now _ (times (read p.within.0 p.num) (read q.within.0 q.num)) c.in_err-num.ensures)

pub returns-in_err-den : goal.returns-in_err-den
returns-in_err-den c =
    let p = c.crosswise-a.ensures in let q = c.crosswise-c.ensures in
    rw c.from_residual-in_err-den.ensures (product_den_past c.args.x.now c.args.y.now _ (times (read q.within.1 q.den) (read p.within.1 p.den)) c.in_err-den.ensures)

lowest_is : (c : goal.In_ok-den) → IsLowest (passed c.in_ok-num.num) (passed c.in_ok-den.den) (c.args.x.now *ℚ c.args.y.now)
lowest_is c =
    let p = c.crosswise-a.ensures in let q = c.crosswise-c.ensures in
    IsLowest-at (kept c.in_ok-num.ensures (times (read p.within.0 p.num) (read q.within.0 q.num)))
    (kept c.in_ok-den.ensures (times (read q.within.1 q.den) (read p.within.1 p.den)))
    (mul_lowest c.args.x.now c.args.y.now)

pub lowest-requires-clause-positive : goal.lowest-requires-clause-positive
lowest-requires-clause-positive c = (lowest_is c).positive

pub lowest-requires-clause-coprime : goal.lowest-requires-clause-coprime
lowest-requires-clause-coprime c = (lowest_is c).coprime

pub returns : goal.returns
returns c =
    let p = c.crosswise-a.ensures in let q = c.crosswise-c.ensures in (
      product_within c.args.x.now c.args.y.now _ _
          (times (read p.within.0 p.num) (read q.within.0 q.num))
          (times (read q.within.1 q.den) (read p.within.1 p.den))
          c.in_ok-num.ensures.0 c.in_ok-den.ensures.0,
      c.lowest.ensures ∙ (lowest_is c.before).value,
    )
