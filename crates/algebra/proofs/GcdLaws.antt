-- The laws of the greatest common divisor. They all come from one: what divides both multiples a * k and b * k divides
-- gcd a b * k too. At k = 1 it says that the common divisor is the greatest, and at gcd a b = 1 it is Euclid's lemma.
use Rattle.std.proofs.Common.{◌≡◌, ℕ, zero, suc, ◌+◌, ◌*◌, ◌/◌, ◌%◌, ◌<◌, ◌≤◌, sym, ap, subst, ◌∙◌, arith}
use Prim.Native.Nat.{◌∣◌}
use native.Mathlib.Nat.{dvd_refl, dvd-zero, le_of_dvd, one-dvd, dvd_trans, dvd_antisymm, dvd-mod_iff, dvd-mul_left, dvd-mul_right, dvd-mul_left_of_dvd, dvd-mul_right_of_dvd, dvd-add_iff_right, dvd_of_mul-dvd-mul_left, mul-dvd-mul_left, mul-div_cancel', mul_assoc, mul_left_comm, one-mul, mul-one, div-add-mod, mod-lt, zero-lt-suc, pos_of_dvd_of_pos}
use Rattle.std.specs.Int.{IsGcd}
use Rattle.std.proofs.lemmas.Nat.Gcd.{same_from_IsGcd, IsGcd-swap}
use Rattle.algebra.specs.Gcd.{gcd, gcd_in}

-- g divides both numbers, and is a greatest common divisor after any multiple
pub record Divides (a b g : ℕ) : Type 0 where
  pub left : g ∣ a
  pub right : g ∣ b
  pub multiples : (n k : ℕ) → n ∣ a * k → n ∣ b * k → n ∣ g * k

-- ---- Euclid's algorithm keeps it
-- one step of Euclid's algorithm
pub step : (a b g : ℕ) → Divides (suc b) (a % suc b) g → Divides a (suc b) g
step a b g h = record {
  left = (dvd-mod_iff g h.left).0 h.right;
  right = h.left;
  multiples = λ n k p q. h.multiples n k q (
      let e : a * k ≡ suc b * k * (a / suc b) + (a % suc b) * k =
      ap (λ (m : ℕ). m * k) (sym (div-add-mod a (suc b))) ∙ omega arith in
      (dvd-add_iff_right n (dvd-mul_right_of_dvd n q (a / suc b))).1 (subst (λ m. n ∣ m) e p));
}

-- its last step
pub end : (a : ℕ) → Divides a 0 a
end a = record { left = dvd_refl a; right = dvd-zero a; multiples = λ n k p q. p }

-- as many steps as are needed
in_divides : (n a b : ℕ) → b ≤ n → Divides a b (gcd_in n a b)
unfolding gcd_in
in_divides zero a zero h = end a
in_divides zero a (suc b) h = absurd (omega arith)
in_divides (suc n) a zero h = end a
in_divides (suc n) a (suc b) h = let l : a % suc b < suc b = mod-lt a (zero-lt-suc b) in step a b _ (in_divides n (suc b) (a % suc b) (omega arith))

-- `gcd` divides both, and is the greatest after any multiple
pub gcd_divides : (a b : ℕ) → Divides a b (gcd a b)
unfolding gcd
gcd_divides a b = in_divides b a b (omega arith)

-- a number of which this holds is the greatest common divisor, in std's word for it
pub Divides-IsGcd : (a b g : ℕ) → Divides a b g → IsGcd a b g
Divides-IsGcd a b g h = (h.left, h.right, λ d p q. subst (λ m. d ∣ m) (mul-one g) (h.multiples d 1 (subst (λ m. d ∣ m) (sym (mul-one a)) p) (subst (λ m. d ∣ m) (sym (mul-one b)) q)))

-- there is one greatest common divisor only
pub gcd_is : (a b g : ℕ) → IsGcd a b g → gcd a b ≡ g
gcd_is a b g h = same_from_IsGcd a b (gcd a b) g (Divides-IsGcd a b (gcd a b) (gcd_divides a b)) h

-- gcd a b divides a
pub gcd_divides_left : (a b : ℕ) → gcd a b ∣ a
gcd_divides_left a b = (gcd_divides a b).left

-- gcd a b divides b
pub gcd_divides_right : (a b : ℕ) → gcd a b ∣ b
gcd_divides_right a b = (gcd_divides a b).right

-- what divides both divides gcd a b
pub gcd_greatest : (a b d : ℕ) → d ∣ a → d ∣ b → d ∣ gcd a b
gcd_greatest a b d = (Divides-IsGcd a b (gcd a b) (gcd_divides a b)).2 d

-- ---- no factor in common
-- Euclid's lemma: what divides a * k and has no factor in common with a divides k
pub cancel : (a b k : ℕ) → gcd a b ≡ 1 → b ∣ a * k → b ∣ k
cancel a b k e h = subst (λ m. b ∣ m) (ap (λ (g : ℕ). g * k) e ∙ one-mul k) ((gcd_divides a b).multiples b k h (dvd-mul_right b k))

-- two fractions a / b and c / d in lowest terms whose cross products are equal have one denominator
pub same_den : (a b c d : ℕ) → gcd a b ≡ 1 → gcd c d ≡ 1 → a * d ≡ c * b → b ≡ d
same_den a b c d p q e = dvd_antisymm (cancel a b d p (subst (λ m. b ∣ m) (sym e) (dvd-mul_left b c))) (cancel c d b q (subst (λ m. d ∣ m) e (dvd-mul_left d a)))

-- the greatest common divisor with a number above 0 is above 0
pub gcd_pos : (a b : ℕ) → 0 < b → 0 < gcd a b
gcd_pos a b h = pos_of_dvd_of_pos (gcd_divides a b).right h

-- divided by their greatest common divisor, two numbers have no factor in common
pub reduced : (a b : ℕ) → 0 < b → gcd (a / gcd a b) (b / gcd a b) ≡ 1
reduced a b h =
    let g = gcd a b in let d = gcd_divides a b in let p : 0 < g = gcd_pos a b h in
    let ea : g * (a / g) ≡ a = mul-div_cancel' g d.left in let eb : g * (b / g) ≡ b = mul-div_cancel' g d.right in
    let up = λ (n k x y : ℕ) (e : g * x ≡ y) (q : n ∣ x * k). subst (λ m. g * n ∣ m) (sym (mul_assoc g x k) ∙ ap (λ (m : ℕ). m * k) e) (mul-dvd-mul_left n g q) in
    let s : Divides (a / g) (b / g) 1 = record {
      left = one-dvd (a / g);
      right = one-dvd (b / g);
      multiples = λ n k x y.
          subst (λ m. n ∣ m) (sym (one-mul k)) (dvd_of_mul-dvd-mul_left n p (d.multiples (g * n) k (up n k (a / g) a ea x) (up n k (b / g) b eb y)));
    } in
    gcd_is _ _ 1 (Divides-IsGcd _ _ 1 s)

-- with no factor in common with b nor with d, a has none in common with b * d
pub gcd-times : (a b d : ℕ) → gcd a b ≡ 1 → gcd a d ≡ 1 → gcd a (b * d) ≡ 1
gcd-times a b d p q =
    gcd_is a (b * d) 1 (Divides-IsGcd a (b * d) 1 (record {
      left = one-dvd a;
      right = one-dvd (b * d);
      multiples = λ n k x y.
          let f : n ∣ d * k = subst (λ m. n ∣ m) (ap (λ (g : ℕ). g * (d * k)) p ∙ one-mul (d * k))
          ((gcd_divides a b).multiples n (d * k) (subst (λ m. n ∣ m) (mul_left_comm d a k) (dvd-mul_left_of_dvd n x d)) (subst (λ m. n ∣ m) (mul_assoc b d k) y)) in
          subst (λ m. n ∣ m * k) q ((gcd_divides a d).multiples n k x f);
    }))

-- gcd a 0 is a
pub gcd-zero : (a b : ℕ) → b ≡ 0 → gcd a b ≡ a
gcd-zero a b e = gcd_is a b a (Divides-IsGcd a b a (let P : ℕ → Type 0 = λ n. Divides a n a in subst P (sym e) (end a)))

-- a step of Euclid's algorithm: gcd b (a % b) is gcd a b
pub gcd-mod : (a b : ℕ) → 0 < b → gcd b (a % b) ≡ gcd a b
gcd-mod a zero h = absurd (omega arith)
gcd-mod a (suc b) h = sym (gcd_is a (suc b) _ (Divides-IsGcd a (suc b) _ (step a b _ (gcd_divides (suc b) (a % suc b)))))

-- gcd a b is gcd b a
pub gcd_comm : (a b : ℕ) → gcd a b ≡ gcd b a
gcd_comm a b = sym (gcd_is b a (gcd a b) (IsGcd-swap a b (gcd a b) (Divides-IsGcd a b (gcd a b) (gcd_divides a b))))

-- divisors of numbers with no factor in common have none in common
pub gcd_below : (a b a' b' : ℕ) → gcd a b ≡ 1 → a' ∣ a → b' ∣ b → gcd a' b' ≡ 1
gcd_below a b a' b' e p q = gcd_is a' b' 1 (
  one-dvd a',
  one-dvd b',
  λ d x y. subst (λ m. d ∣ m) e (gcd_greatest a b d (dvd_trans d x p) (dvd_trans d y q)),
)

-- the quotient by a divisor is a divisor
pub div_dvd : (a g : ℕ) → g ∣ a → a / g ∣ a
div_dvd a g h = subst (λ m. a / g ∣ m) (mul-div_cancel' g h) (dvd-mul_left (a / g) g)

-- two fractions in lowest terms, divided crosswise: their product is in lowest terms
pub crosswise : (a b c d : ℕ) → 0 < b → 0 < d → gcd a b ≡ 1 → gcd c d ≡ 1
    → gcd ((a / gcd a d) * (c / gcd c b)) ((b / gcd c b) * (d / gcd a d)) ≡ 1
crosswise a b c d hb hd p q =
    let g = gcd a d in let h = gcd c b in
    let A = a / gcd a d in let C = c / gcd c b in let B = b / gcd c b in let D = d / gcd a d in
    let da = div_dvd a g (gcd_divides a d).left in let dd = div_dvd d g (gcd_divides a d).right in
    let dc = div_dvd c h (gcd_divides c b).left in let db = div_dvd b h (gcd_divides c b).right in
    let AB : gcd A B ≡ 1 = gcd_below a b A B p da db in let AD : gcd A D ≡ 1 = reduced a d hd in
    let CB : gcd C B ≡ 1 = reduced c b hb in let CD : gcd C D ≡ 1 = gcd_below c d C D q dc dd in
    gcd_comm (A * C) (B * D) ∙ gcd-times (B * D) A C (gcd_comm (B * D) A ∙ gcd-times A B D AB AD) (gcd_comm (B * D) C ∙ gcd-times C B D CB CD)

-- gcd a b is at most b, where b is above 0
pub gcd_le : (a b : ℕ) → 0 < b → gcd a b ≤ b
gcd_le a b h = le_of_dvd h (gcd_divides a b).right
