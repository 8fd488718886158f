use Rattle.std.proofs.Common.{◌≡◌, ◌/◌, ℤ, ℕ, pos, ◌*ℤ◌, ◌+ℤ◌, refl, ap₂, ◌∙◌, arith}
use Rattle.std.proofs.lemmas.Int.{ints}
use lib.Signed.{quot_z}
use Rattle.rational.specs.Fraction.{◌+ℚ◌}
use Rattle.rational.proofs.MulLaws.{IsLowest, IsLowest-at}
use Rattle.rational.proofs.AddLaws.{common, total, rest, add_lowest}
use Rattle.frac128.proofs.Named.{left, right, sum_den, left_past, right_past, total_past, sum_den_past, sum_within, whole_sum_past, whole_sum, common_is, part_is, divisor_passed, rest_is}
use Rattle.frac128.proofs.Passed.{passed, read, kept, read_within, within_at}
use Rattle.frac128.proofs.operations.sum.Goals as goal
use Rattle.frac128.proofs.operations.sum.Goals.{After-divisor-g, After-shrink-b_part, After-shrink, After-num-3, In_ok-left, In_ok-right, In_ok-sum, In_ok-den, After-divisor-h, After-shrink-2, After-shrink-3}

times : {a b c d : ℤ} → a ≡ c → b ≡ d → a *ℤ b ≡ c *ℤ d
times e f = ap₂ (λ (z w : ℤ). z *ℤ w) e f

plus : {a b c d : ℤ} → a ≡ c → b ≡ d → a +ℤ b ≡ c +ℤ d
plus e f = ap₂ (λ (z w : ℤ). z +ℤ w) e f

pub returns-in_err-plus : goal.returns-in_err-plus
returns-in_err-plus c =
    let e = plus (read c.num.ensures.within c.num.ensures.value) (read c.num-then-is_whole-2.ensures.within c.num-then-is_whole-2.ensures.value) in
    rw c.from_residual.ensures (whole_sum_past c.args.x.now c.args.y.now _ (c.if-is_whole.ensures.0 refl) (c.if-is_whole-2.ensures.0 refl) e c.in_err-plus.ensures)

pub returns-then-is_whole-2 : goal.returns-then-is_whole-2
returns-then-is_whole-2 c =
    let p = c.num.ensures in let q = c.num-then-is_whole-2.ensures in
    let e = plus (read p.within p.value) (read q.within q.value) in
    let r = whole_sum c.args.x.now c.args.y.now _ (c.if-is_whole.ensures.0 refl) (c.if-is_whole-2.ensures.0 refl) (kept c.in_ok-plus.ensures e) (within_at p.value p.within) (within_at q.value q.within) (read_within c.in_ok-plus.ensures) in
    (r.0, c.whole_number.ensures ∙ r.1)

-- what each step is, at the last place that still has the names of all before it
g_is : (c : After-divisor-g) → c.divisor-g.result ≡ common c.args.x.now c.args.y.now
g_is c = common_is c.args.x.now c.args.y.now (read c.den-b.ensures.within c.den-b.ensures.value) (read c.den-d.ensures.within c.den-d.ensures.value) c.divisor-g.ensures.value

b_is : (c : After-shrink-b_part) → passed c.shrink-b_part.result ≡ pos (c.args.x.now.den / common c.args.x.now c.args.y.now)
b_is c = part_is c.args.x.now.den c.shrink-b_part.ensures.within c.shrink-b_part.ensures.value (read c.den-b.ensures.within c.den-b.ensures.value) (g_is c.before)

left_is : (c : After-shrink) → passed c.num-2.result *ℤ passed c.shrink.result ≡ left c.args.x.now c.args.y.now
left_is c =
    times (read c.num-2.ensures.within c.num-2.ensures.value)
    (part_is c.args.y.now.den c.shrink.ensures.within c.shrink.ensures.value (read c.den-d.ensures.within c.den-d.ensures.value) (g_is c.before.before.before))

-- earlier places
abbrev first_of : After-num-3 → After-shrink-b_part
first_of c = c.before.before.before.before.before.before

abbrev right_of : In_ok-right → After-num-3
right_of c = c.before.before.before

abbrev sum_of : In_ok-sum → In_ok-right
sum_of c = c.before.before.before

right_is : (c : After-num-3) → passed c.num-3.result *ℤ passed c.shrink-b_part.result ≡ right c.args.x.now c.args.y.now
right_is c = times (read c.num-3.ensures.within c.num-3.ensures.value) (b_is (first_of c))

total_is : (c : In_ok-right) → passed c.in_ok-left.left +ℤ passed c.in_ok-right.right ≡ total c.args.x.now c.args.y.now
total_is c = plus (kept c.in_ok-left.ensures (left_is (right_of c).before.before.before.before)) (kept c.in_ok-right.ensures (right_is (right_of c)))

sum_is : (c : In_ok-sum) → passed c.in_ok-sum.sum ≡ total c.args.x.now c.args.y.now
sum_is c = kept c.in_ok-sum.ensures (total_is (sum_of c))

h_is : (c : After-divisor-h) → c.divisor-h.result ≡ rest c.args.x.now c.args.y.now
h_is c = rest_is c.args.x.now c.args.y.now (sum_is c.before) (g_is (first_of (right_of (sum_of c.before))).before) c.divisor-g.ensures.bound c.divisor-h.ensures.value

den_is : (c : After-shrink-2) → passed c.shrink-b_part.result *ℤ passed c.shrink-2.result ≡ sum_den c.args.x.now c.args.y.now
den_is c =
    times (b_is (first_of (right_of (sum_of c.before.before))))
    (part_is c.args.y.now.den c.shrink-2.ensures.within c.shrink-2.ensures.value (read c.den-d.ensures.within c.den-d.ensures.value) (h_is c.before))

lowest_is : (c : After-shrink-3) → IsLowest (passed c.shrink-3.result) (passed c.in_ok-den.den) (c.args.x.now +ℚ c.args.y.now)
lowest_is c =
    let d = c.before.before.before.before in
    IsLowest-at (read c.shrink-3.ensures.within (c.shrink-3.ensures.value ∙ ap₂ (λ (z : ℤ) (m : ℕ). quot_z z (pos m)) (sum_is d.before.before) (h_is d.before)))
    (kept c.in_ok-den.ensures (den_is d)) (add_lowest c.args.x.now c.args.y.now)

pub returns-in_err-left : goal.returns-in_err-left
returns-in_err-left c = rw c.from_residual-in_err-left.ensures (left_past c.args.x.now c.args.y.now _ (left_is c.before.before.before.before) c.in_err-left.ensures)

pub returns-in_err-right : goal.returns-in_err-right
returns-in_err-right c = rw c.from_residual-in_err-right.ensures (right_past c.args.x.now c.args.y.now _ (right_is c.before.before.before.before) c.in_err-right.ensures)

pub returns-in_err-sum : goal.returns-in_err-sum
returns-in_err-sum c = rw c.from_residual-in_err-sum.ensures (total_past c.args.x.now c.args.y.now _ (total_is c.before.before.before.before) c.in_err-sum.ensures)

pub divisor-h-requires : goal.divisor-h-requires
divisor-h-requires c = omega (arith, ints, divisor_passed c.divisor-g.result c.divisor-g.ensures.bound)

pub returns-in_err-den : goal.returns-in_err-den
returns-in_err-den c = rw c.from_residual-in_err-den.ensures (sum_den_past c.args.x.now c.args.y.now _ (den_is c.before.before.before.before) c.in_err-den.ensures)

pub lowest-requires-clause-positive : goal.lowest-requires-clause-positive
lowest-requires-clause-positive c = (lowest_is c).positive

pub lowest-requires-clause-coprime : goal.lowest-requires-clause-coprime
lowest-requires-clause-coprime c = (lowest_is c).coprime

pub returns : goal.returns
returns c =
    let d = c.before.before.before.before.before in let e = sum_of d.before.before in (
      sum_within c.args.x.now c.args.y.now _ _ _ _ (left_is (right_of e).before.before.before.before) (right_is (right_of e)) (total_is e) (den_is d)
          c.in_ok-left.ensures.0 c.in_ok-right.ensures.0 c.in_ok-sum.ensures.0 c.in_ok-den.ensures.0,
      c.lowest.ensures ∙ (lowest_is c.before).value,
    )
