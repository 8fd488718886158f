-- The numbers that an operation names: all within the bound, or one past it.
use Rattle.std.proofs.Common.{◌≡◌, ℕ, suc, ◌*◌, ◌/◌, ◌<◌, ◌^◌, List, [], ◌∷◌, refl, sym, ap, ap₂, subst, ◌∙◌, arith}
use Rattle.std.proofs.lemmas.Int.{to_z_pos}
use Rattle.std.proofs.lemmas.List.Elements.{All-cons, All-nil}
use Rattle.std.specs.List.{All, Any}
use lib.IntN.{ℤ, pos, negsuc, neg_ℤ, nat_abs, ◌+ℤ◌, ◌*ℤ◌}
use lib.Signed.{quot_z}
use Rattle.algebra.specs.Gcd.{gcd}
use Rattle.algebra.proofs.Reduce.{gcd-one}
use Rattle.algebra.proofs.Solve.{v, k, ◌⊗◌, solve}
use Rattle.algebra.proofs.IntRing.{int-ring}
use Rattle.rational.specs.Fraction.{Fraction, whole, ◌+ℚ◌, ◌*ℚ◌}
use Rattle.rational.proofs.FieldLaws.{itself, whole_is, whole-add, whole-mul, same_quotient}
use mir.Syntax.{w128}
use mir.Val.{to_z}
use Rattle.frac128.specs.Bounds.{IsWithin, IsPast}
use Rattle.frac128.proofs.Passed.{passed, read}
use Rattle.rational.proofs.AddLaws.{common, total, rest}
use Rattle.frac128.specs.declared.operations.Op.TheVariants.{Add, Mul}
use Rattle.frac128.specs.Operations.{sum_numbers, product_numbers, named_numbers}

-- ---- lists of two and of four
any_first : (P : ℤ → Type 0) (z : ℤ) (zs : List ℤ) → P z → Any P (z ∷ zs)
any_first P z zs p = (0, z, omega arith, refl, p)

any_next : (P : ℤ → Type 0) (z : ℤ) (zs : List ℤ) → Any P zs → Any P (z ∷ zs)
any_next P z zs (i, x, l, e, p) = (suc i, x, omega arith, e, p)

all_two : (P : ℤ → Type 0) (a b : ℤ) → P a → P b → All P (a ∷ b ∷ [])
all_two P a b p q = All-cons P a (b ∷ []) p (All-cons P b [] q (All-nil P))

all_four : (P : ℤ → Type 0) (a b c d : ℤ) → P a → P b → P c → P d → All P (a ∷ b ∷ c ∷ d ∷ [])
all_four P a b c d p q r s = All-cons P a (b ∷ c ∷ d ∷ []) p (All-cons P b (c ∷ d ∷ []) q (all_two P c d r s))

-- ---- the numbers of a product
abbrev pub product_num : Fraction → Fraction → ℤ
product_num x y = quot_z x.num (pos (gcd (nat_abs x.num) y.den)) *ℤ quot_z y.num (pos (gcd (nat_abs y.num) x.den))

abbrev pub product_den : Fraction → Fraction → ℤ
product_den x y = pos (x.den / gcd (nat_abs y.num) x.den) *ℤ pos (y.den / gcd (nat_abs x.num) y.den)

pub product_num_past : (x y : Fraction) (z : ℤ) → z ≡ product_num x y → IsPast z → Any IsPast (named_numbers Mul x y)
product_num_past x y z e h = any_first IsPast (product_num x y) (product_den x y ∷ []) (subst IsPast e h)

pub product_den_past : (x y : Fraction) (z : ℤ) → z ≡ product_den x y → IsPast z → Any IsPast (named_numbers Mul x y)
product_den_past x y z e h = any_next IsPast (product_num x y) (product_den x y ∷ []) (any_first IsPast (product_den x y) [] (subst IsPast e h))

pub product_within : (x y : Fraction) (n d : ℤ) → n ≡ product_num x y → d ≡ product_den x y → IsWithin n → IsWithin d → All IsWithin (named_numbers Mul x y)
product_within x y n d e f h i = all_two IsWithin (product_num x y) (product_den x y) (subst IsWithin e h) (subst IsWithin f i)

-- ---- the numbers of a sum
abbrev pub left : Fraction → Fraction → ℤ
left x y = x.num *ℤ pos (y.den / common x y)

abbrev pub right : Fraction → Fraction → ℤ
right x y = y.num *ℤ pos (x.den / common x y)

abbrev pub sum_den : Fraction → Fraction → ℤ
sum_den x y = pos (x.den / common x y) *ℤ pos (y.den / rest x y)

pub left_past : (x y : Fraction) (z : ℤ) → z ≡ left x y → IsPast z → Any IsPast (named_numbers Add x y)
left_past x y z e h = any_first IsPast (left x y) (right x y ∷ total x y ∷ sum_den x y ∷ []) (subst IsPast e h)

pub right_past : (x y : Fraction) (z : ℤ) → z ≡ right x y → IsPast z → Any IsPast (named_numbers Add x y)
right_past x y z e h = any_next IsPast (left x y) (right x y ∷ total x y ∷ sum_den x y ∷ []) (any_first IsPast (right x y) (total x y ∷ sum_den x y ∷ []) (subst IsPast e h))

pub total_past : (x y : Fraction) (z : ℤ) → z ≡ total x y → IsPast z → Any IsPast (named_numbers Add x y)
total_past x y z e h = any_next IsPast (left x y) (right x y ∷ total x y ∷ sum_den x y ∷ []) (any_next IsPast (right x y) (total x y ∷ sum_den x y ∷ []) (any_first IsPast (total x y) (sum_den x y ∷ []) (subst IsPast e h)))

pub sum_den_past : (x y : Fraction) (z : ℤ) → z ≡ sum_den x y → IsPast z → Any IsPast (named_numbers Add x y)
sum_den_past x y z e h = any_next IsPast (left x y) (right x y ∷ total x y ∷ sum_den x y ∷ []) (any_next IsPast (right x y) (total x y ∷ sum_den x y ∷ [])
    (any_next IsPast (total x y) (sum_den x y ∷ []) (any_first IsPast (sum_den x y) [] (subst IsPast e h))))

pub sum_within : (x y : Fraction) (l r t d : ℤ) → l ≡ left x y → r ≡ right x y → t ≡ total x y → d ≡ sum_den x y → IsWithin l → IsWithin r → IsWithin t → IsWithin d → All IsWithin (named_numbers Add x y)
sum_within x y l r t d e f g h i j m n = all_four IsWithin (left x y) (right x y) (total x y) (sum_den x y) (subst IsWithin e i) (subst IsWithin f j) (subst IsWithin g m) (subst IsWithin h n)

-- ---- whole numbers
gcd_ones : gcd 1 1 ≡ 1
gcd_ones = gcd-one 1

times_one : (z : ℤ) → z *ℤ pos 1 ≡ z
times_one z = solve int-ring (v 0 ⊗ k (pos 1)) (v 0) (z ∷ []) refl

one : (n : ℕ) → n / 1 ≡ n
one n = omega arith

quot-one : (z : ℤ) → quot_z z (pos 1) ≡ z
quot-one (pos n) = ap pos (one n)
quot-one (negsuc n) = ap (λ (m : ℕ). neg_ℤ (pos m)) (one (suc n))

sum_at : (a c : ℤ) (g h : ℕ) → g ≡ 1 → h ≡ 1 → (a *ℤ pos (1 / g)) ∷ (c *ℤ pos (1 / g)) ∷ (a *ℤ pos (1 / g) +ℤ c *ℤ pos (1 / g)) ∷ pos ((1 / g) * (1 / h)) ∷ [] ≡ a ∷ c ∷ (a +ℤ c) ∷ pos 1 ∷ []
sum_at a c g h p q = rw (p, q, times_one a, times_one c)

sum_of_wholes : (a c : ℤ) → sum_numbers a 1 c 1 ≡ a ∷ c ∷ (a +ℤ c) ∷ pos 1 ∷ []
sum_of_wholes a c = sum_at a c (gcd 1 1) (gcd (nat_abs (a *ℤ pos (1 / gcd 1 1) +ℤ c *ℤ pos (1 / gcd 1 1))) (gcd 1 1)) gcd_ones (ap (gcd _) gcd_ones ∙ gcd-one _)

product_at : (a c : ℤ) (g h : ℕ) → g ≡ 1 → h ≡ 1 → (quot_z a (pos g) *ℤ quot_z c (pos h)) ∷ pos ((1 / h) * (1 / g)) ∷ [] ≡ (a *ℤ c) ∷ pos 1 ∷ []
product_at a c g h p q = rw (p, q, quot-one a, quot-one c)

product_of_wholes : (a c : ℤ) → product_numbers a 1 c 1 ≡ (a *ℤ c) ∷ pos 1 ∷ []
product_of_wholes a c = product_at a c _ _ (gcd-one (nat_abs a)) (gcd-one (nat_abs c))

is_whole : (x : Fraction) → x.den ≡ 1 → x ≡ whole x.num
is_whole x e = same_quotient x (whole x.num) _ _ _ _ (itself x) (whole_is x.num) (ap (λ (n : ℕ). x.num *ℤ pos n) (sym e))

within_one : IsWithin (pos 1)
within_one = omega arith

pub whole_product_past : (x y : Fraction) (z : ℤ) → x.den ≡ 1 → y.den ≡ 1 → z ≡ x.num *ℤ y.num → IsPast z → Any IsPast (named_numbers Mul x y)
whole_product_past x y z p q e h =
    let P : ℕ → ℕ → Type 0 = λ b d. Any IsPast (product_numbers x.num b y.num d) in
    subst (λ b. P b y.den) (sym p) (subst (P 1) (sym q) (subst (Any IsPast) (sym (product_of_wholes x.num y.num)) (any_first IsPast (x.num *ℤ y.num) (pos 1 ∷ []) (subst IsPast e h))))

pub whole_product : (x y : Fraction) (z : ℤ) → x.den ≡ 1 → y.den ≡ 1 → z ≡ x.num *ℤ y.num → IsWithin z → All IsWithin (named_numbers Mul x y) × (whole z ≡ x *ℚ y)
whole_product x y z p q e h =
    let P : ℕ → ℕ → Type 0 = λ b d. All IsWithin (product_numbers x.num b y.num d) in (
      subst (λ b. P b y.den) (sym p) (subst (P 1) (sym q) (subst (All IsWithin) (sym (product_of_wholes x.num y.num)) (all_two IsWithin (x.num *ℤ y.num) (pos 1) (subst IsWithin e h) within_one))),
      ap whole e ∙ whole-mul x.num y.num ∙ ap₂ (λ (u w : Fraction). u *ℚ w) (sym (is_whole x p)) (sym (is_whole y q)),
    )

pub whole_sum_past : (x y : Fraction) (z : ℤ) → x.den ≡ 1 → y.den ≡ 1 → z ≡ x.num +ℤ y.num → IsPast z → Any IsPast (named_numbers Add x y)
whole_sum_past x y z p q e h =
    let P : ℕ → ℕ → Type 0 = λ b d. Any IsPast (sum_numbers x.num b y.num d) in
    let t : ℤ = x.num +ℤ y.num in
    subst (λ b. P b y.den) (sym p) (subst (P 1) (sym q) (subst (Any IsPast) (sym (sum_of_wholes x.num y.num))
    (any_next IsPast x.num (y.num ∷ t ∷ pos 1 ∷ []) (any_next IsPast y.num (t ∷ pos 1 ∷ []) (any_first IsPast t (pos 1 ∷ []) (subst IsPast e h))))))

pub whole_sum : (x y : Fraction) (z : ℤ) → x.den ≡ 1 → y.den ≡ 1 → z ≡ x.num +ℤ y.num → IsWithin x.num → IsWithin y.num → IsWithin z → All IsWithin (named_numbers Add x y) × (whole z ≡ x +ℚ y)
whole_sum x y z p q e f g h =
    let P : ℕ → ℕ → Type 0 = λ b d. All IsWithin (sum_numbers x.num b y.num d) in (
      subst (λ b. P b y.den) (sym p) (subst (P 1) (sym q) (subst (All IsWithin) (sym (sum_of_wholes x.num y.num)) (all_four IsWithin x.num y.num (x.num +ℤ y.num) (pos 1) f g (subst IsWithin e h) within_one))),
      ap whole e ∙ whole-add x.num y.num ∙ ap₂ (λ (u w : Fraction). u +ℚ w) (sym (is_whole x p)) (sym (is_whole y q)),
    )

-- ---- the steps of a sum, from what its calls ensure
pub common_is : (x y : Fraction) {B D : ℤ} {g : ℕ} → B ≡ pos x.den → D ≡ pos y.den → g ≡ gcd (nat_abs B) (nat_abs D) → g ≡ common x y
common_is x y p q e = e ∙ ap₂ (λ (b d : ℤ). gcd (nat_abs b) (nat_abs d)) p q

pub part_is : {D q : ℤ} {g k : ℕ} (d : ℕ) → IsWithin q → q ≡ quot_z D (pos g) → D ≡ pos d → g ≡ k → passed q ≡ pos (d / k)
part_is d h e p r = read h (e ∙ ap₂ (λ (z : ℤ) (m : ℕ). quot_z z (pos m)) p r)

-- a common divisor is passed on as a signed number
pub divisor_passed : (g : ℕ) → g < 2 ^ 127 → to_z w128 g ≡ pos g
divisor_passed g h = to_z_pos w128 g h

pub rest_is : (x y : Fraction) {t : ℤ} {g h : ℕ} → t ≡ total x y → g ≡ common x y → g < 2 ^ 127 → h ≡ gcd (nat_abs t) (nat_abs (to_z w128 g)) → h ≡ rest x y
rest_is x y {t} {g} p q b e = e ∙ ap₂ (λ (z w : ℤ). gcd (nat_abs z) (nat_abs w)) p (divisor_passed g b ∙ ap pos q)
