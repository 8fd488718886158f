-- The binary method for the greatest common divisor: powers of two come out, and odd numbers may be subtracted.
use Rattle.std.proofs.Common.{◌≡◌, ℕ, zero, suc, ◌+◌, ◌-◌, ◌*◌, ◌/◌, ◌%◌, ◌^◌, ◌<◌, ◌≤◌, min, ◌⊎◌, inl, inr, ⊎_elim, sym, ap, ap₂, subst, ◌∙◌, arith}
use Rattle.std.proofs.lemmas.Bool.{cases_lt}
use Rattle.std.proofs.lemmas.Nat.{mod-pow-add, shr_split, pow-add}
use Rattle.std.proofs.lemmas.Nat.Bits.{bit_at-trailing_zeros}
use Rattle.std.proofs.lemmas.Nat.Gcd.{IsGcd-from_sub}
use Rattle.std.specs.Int.{w64, trailing_zeros}
use Prim.Native.Nat.{◌∣◌}
use native.Mathlib.Nat.{mul-dvd-mul_left, one-mul, dvd-mul_right_of_dvd, dvd_refl, mul_comm, pow-suc}
use Rattle.algebra.specs.Gcd.{gcd}
use Rattle.algebra.proofs.Reduce.{gcd-one}
use Rattle.algebra.proofs.GcdLaws.{Divides-IsGcd, gcd_divides, gcd_is, gcd_comm, gcd-times, gcd-mod, gcd_le}

-- ---- the lowest bit that is set
zero_row : (m : ℕ) → 0 * m + 0 ≡ 0
zero_row m = omega arith

low_zeros : (n k : ℕ) → ((i : ℕ) → i < k → n / 2 ^ i % 2 ≡ 0) → n % 2 ^ k ≡ 0
low_zeros n zero h = omega arith
low_zeros n (suc k) h =
    let e : 1 + k ≡ suc k = omega arith in
    ap (λ (m : ℕ). n % 2 ^ m) (sym e) ∙ mod-pow-add n 1 k ∙ ap₂ (λ (a b : ℕ). a * 2 ^ k + b) (h k (omega arith)) (low_zeros n k (λ i p. h i (omega arith))) ∙ zero_row (2 ^ k)

pub odd_shifted : (n : ℕ) → 0 < n → n < 2 ^ 64 → n / 2 ^ trailing_zeros w64 n % 2 ≡ 1
odd_shifted n p h = (bit_at-trailing_zeros w64 n p h).1

pub shifted_back : (n : ℕ) → 0 < n → n < 2 ^ 64 → n / 2 ^ trailing_zeros w64 n * 2 ^ trailing_zeros w64 n ≡ n
shifted_back n p h =
    let k = trailing_zeros w64 n in
    omega (arith, shr_split n k, low_zeros n k (bit_at-trailing_zeros w64 n p h).2)

-- ---- powers of two and odd numbers
odd_two : (x : ℕ) → x % 2 ≡ 1 → gcd x 2 ≡ 1
odd_two x h = sym (gcd-mod x 2 (omega arith)) ∙ ap (gcd 2) h ∙ gcd-one 2

odd_power : (x k : ℕ) → x % 2 ≡ 1 → gcd x (2 ^ k) ≡ 1
odd_power x zero h = gcd-one x
odd_power x (suc k) h = ap (gcd x) (pow-suc 2 k) ∙ gcd-times x (2 ^ k) 2 (odd_power x k h) (odd_two x h)

-- a power of two beside an odd number is no part of what they share
gcd-power : (x y k : ℕ) → x % 2 ≡ 1 → gcd x (y * 2 ^ k) ≡ gcd x y
gcd-power x y k h =
    let g = gcd_divides x y in let one = odd_power x k h in
    gcd_is x (y * 2 ^ k) (gcd x y) (
      g.left,
      dvd-mul_right_of_dvd _ g.right (2 ^ k),
      λ d p q.
          let r : d ∣ 1 * y = subst (λ (m : ℕ). d ∣ m * y) one ((gcd_divides x (2 ^ k)).multiples d y (dvd-mul_right_of_dvd d p y) (subst (λ (m : ℕ). d ∣ m) (mul_comm y (2 ^ k)) q)) in
          (Divides-IsGcd x y (gcd x y) g).2 d p (subst (λ (m : ℕ). d ∣ m) (one-mul y) r),
    )

gcd-scaled : (a b k : ℕ) → gcd (k * a) (k * b) ≡ k * gcd a b
gcd-scaled a b k =
    let g = gcd_divides a b in
    gcd_is (k * a) (k * b) (k * gcd a b) (
      mul-dvd-mul_left _ k g.left,
      mul-dvd-mul_left _ k g.right,
      λ d p q. subst (λ (m : ℕ). d ∣ m) (mul_comm (gcd a b) k) (g.multiples d k (subst (λ (m : ℕ). d ∣ m) (mul_comm k a) p) (subst (λ (m : ℕ). d ∣ m) (mul_comm k b) q)),
    )

gcd-sub : (x y : ℕ) → y ≤ x → gcd (x - y) y ≡ gcd x y
gcd-sub x y h = let g = gcd (x - y) y in sym (gcd_is x y g (IsGcd-from_sub x y g h (Divides-IsGcd (x - y) y g (gcd_divides (x - y) y))))

gcd_same : (x : ℕ) → gcd x x ≡ x
gcd_same x = gcd_is x x x (dvd_refl x, dvd_refl x, λ d p q. p)

order : (a b : ℕ) → (a ≤ b) ⊎ (b ≤ a)
order a b = ⊎_elim (λ h. inl (omega arith)) (λ h. inr h) (cases_lt a b)

-- ---- a turn of the loop
turn_by : (x y k o : ℕ) → y % 2 ≡ 1 → o * 2 ^ k ≡ x - y → y ≤ x → gcd o y ≡ gcd x y
turn_by x y k o q e h = gcd_comm o y ∙ sym (gcd-power y o k q) ∙ ap (gcd y) e ∙ gcd_comm y (x - y) ∙ gcd-sub x y h

pub turn : (x y k o : ℕ) → x % 2 ≡ 1 → y % 2 ≡ 1 → o * 2 ^ k ≡ (x - y) + (y - x) → gcd o (min x y) ≡ gcd x y
turn x y k o p q e = ⊎_elim
    (λ h. let f : o * 2 ^ k ≡ x - y = omega arith in let m : min x y ≡ y = omega arith in ap (gcd o) m ∙ turn_by x y k o q f h)
    (λ h. let f : o * 2 ^ k ≡ y - x = omega arith in let m : min x y ≡ x = omega arith in ap (gcd o) m ∙ turn_by y x k o p f h ∙ gcd_comm y x)
    (order y x)

pub odd_min : (x y : ℕ) → x % 2 ≡ 1 → y % 2 ≡ 1 → min x y % 2 ≡ 1
odd_min x y p q = ⊎_elim
    (λ h. let m : min x y ≡ y = omega arith in ap (λ (n : ℕ). n % 2) m ∙ q)
    (λ h. let m : min x y ≡ x = omega arith in ap (λ (n : ℕ). n % 2) m ∙ p)
    (order y x)

-- ---- the powers of two that both have
joined_by : (x y i j : ℕ) → x % 2 ≡ 1 → i ≤ j → gcd (x * 2 ^ i) (y * 2 ^ j) ≡ gcd x y * 2 ^ i
joined_by x y i j p h =
    let e : i + (j - i) ≡ j = omega arith in
    let f : y * 2 ^ j ≡ 2 ^ i * (y * 2 ^ (j - i)) = ap (λ (n : ℕ). y * 2 ^ n) (sym e) ∙ ap (λ (n : ℕ). y * n) (pow-add 2 i (j - i)) ∙ omega arith in
    ap₂ gcd (mul_comm x (2 ^ i)) f ∙ gcd-scaled x (y * 2 ^ (j - i)) (2 ^ i) ∙ ap (λ (n : ℕ). 2 ^ i * n) (gcd-power x y (j - i) p) ∙ mul_comm (2 ^ i) (gcd x y)

joined : (x y i j : ℕ) → x % 2 ≡ 1 → y % 2 ≡ 1 → gcd (x * 2 ^ i) (y * 2 ^ j) ≡ gcd x y * 2 ^ min i j
joined x y i j p q = ⊎_elim
    (λ h. let m : min i j ≡ i = omega arith in joined_by x y i j p h ∙ ap (λ (n : ℕ). gcd x y * 2 ^ n) (sym m))
    (λ h. let m : min i j ≡ j = omega arith in gcd_comm (x * 2 ^ i) (y * 2 ^ j) ∙ joined_by y x j i q h ∙ ap₂ (λ (g n : ℕ). g * 2 ^ n) (gcd_comm y x) (sym m))
    (order i j)

-- where the odd parts x and y have become one number z
pub ended : (a b x y z i j : ℕ) → 0 < b → b < 2 ^ 64 → x % 2 ≡ 1 → y % 2 ≡ 1 → x * 2 ^ i ≡ a → y * 2 ^ j ≡ b → gcd z z ≡ gcd x y → (z * 2 ^ min i j) % 2 ^ 64 ≡ gcd a b
ended a b x y z i j h l p q e f g =
    let v : z * 2 ^ min i j ≡ gcd a b = ap (λ (n : ℕ). n * 2 ^ min i j) (sym (gcd_same z) ∙ g) ∙ sym (joined x y i j p q) ∙ ap₂ gcd e f in
    ap (λ (n : ℕ). n % 2 ^ 64) v ∙ below (gcd a b) b (gcd_le a b h) l
  where
    below : (m n : ℕ) → m ≤ n → n < 2 ^ 64 → m % 2 ^ 64 ≡ m
    below m n h l = omega arith
