-- Integers as differences of naturals: an identity over ℤ becomes one over ℕ, which `omega arith` decides. From this come
-- the two laws of ℤ that the kit lacks: a product is associative, and it distributes over a sum.
use Rattle.std.proofs.Common.{◌≡◌, ℕ, ◌+◌, ◌*◌, ap, subst, arith}
use Rattle.std.proofs.lemmas.Int.{ints}
use borrow.Author.Differences.{up, down, same_in, sum_is_lem, product_is}
use lib.IntN.{ℤ, pos, ◌+ℤ◌, ◌*ℤ◌, neg_ℤ}

-- the integer p - q
unfoldable pub diff : ℕ → ℕ → ℤ
diff p q = pos p +ℤ neg_ℤ (pos q)

diff_parts : (p q : ℕ) → up (diff p q) + q ≡ down (diff p q) + p
unfolding diff
diff_parts p q = omega (arith, ints)

-- each integer is the difference of its two parts
pub diff-up-down : (z : ℤ) → diff (up z) (down z) ≡ z
diff-up-down z = same_in _ _ (omega (arith, diff_parts (up z) (down z)))

-- p - q is r - s where p + s is r + q
pub same_diff : (p q r s : ℕ) → p + s ≡ r + q → diff p q ≡ diff r s
same_diff p q r s e = same_in _ _ (omega (arith, diff_parts p q, diff_parts r s))

-- the sum of differences
pub diff-add : (p q r s : ℕ) → diff p q +ℤ diff r s ≡ diff (p + r) (q + s)
diff-add p q r s = same_in _ _ (omega (arith, sum_is_lem (diff p q) (diff r s), diff_parts p q, diff_parts r s, diff_parts (p + r) (q + s)))

-- the product of differences
pub diff-mul : (p q r s : ℕ) → diff p q *ℤ diff r s ≡ diff (p * r + q * s) (p * s + q * r)
diff-mul p q r s =
    let u = up (diff p q) in let v = down (diff p q) in let w = up (diff r s) in let x = down (diff r s) in
    same_in _ _ (omega (
      arith,
      product_is (diff p q) (diff r s),
      diff_parts (p * r + q * s) (p * s + q * r),
      ap (λ (n : ℕ). n * w) (diff_parts p q),
      ap (λ (n : ℕ). n * x) (diff_parts p q),
      ap (λ (n : ℕ). p * n) (diff_parts r s),
      ap (λ (n : ℕ). q * n) (diff_parts r s),
    ))

-- a fact holds of each integer where it holds of each difference
pub by_diff1 : (P : ℤ → Type 0) → ((a a' : ℕ) → P (diff a a')) → (a : ℤ) → P a
by_diff1 P f a = subst P (diff-up-down a) (f (up a) (down a))

-- the same for two integers
pub by_diff2 : (P : ℤ → ℤ → Type 0) → ((a a' b b' : ℕ) → P (diff a a') (diff b b')) → (a b : ℤ) → P a b
by_diff2 P f a b = by_diff1 (λ z. P z b) (λ a a'. by_diff1 (P (diff a a')) (f a a') b) a

-- the same for three integers
pub by_diff3 : (P : ℤ → ℤ → ℤ → Type 0) → ((a a' b b' c c' : ℕ) → P (diff a a') (diff b b') (diff c c')) → (a b c : ℤ) → P a b c
by_diff3 P f a b c = by_diff1 (λ z. P z b c) (λ a a'. by_diff2 (P (diff a a')) (f a a') b c) a

-- (a * b) * c is a * (b * c)
pub mul_assoc_z : (a b c : ℤ) → (a *ℤ b) *ℤ c ≡ a *ℤ (b *ℤ c)
mul_assoc_z = by_diff3 (λ a b c. (a *ℤ b) *ℤ c ≡ a *ℤ (b *ℤ c)) (λ a a' b b' c c'. simp diff-mul (same_diff _ _ _ _ (omega arith)))

-- a * (b + c) is a * b + a * c
pub mul-add_z : (a b c : ℤ) → a *ℤ (b +ℤ c) ≡ a *ℤ b +ℤ a *ℤ c
mul-add_z = by_diff3 (λ a b c. a *ℤ (b +ℤ c) ≡ a *ℤ b +ℤ a *ℤ c) (λ a a' b b' c c'. simp (diff-mul, diff-add) (same_diff _ _ _ _ (omega arith)))
