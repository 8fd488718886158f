-- The laws of finite sums, and of functions that are changed at one place.
use Rattle.std.proofs.Common.{◌≡◌, ◌≢◌, ℕ, zero, suc, ◌<◌, Bool, true, false, cond, [], ◌∷◌, refl, sym, ap, subst, ◌∙◌, arith, nat_eq}
use lib.Dec.{T, eqb→eq, eqb_refl}
use lib.IntN.{pos}
use Rattle.algebra.proofs.Solve.{v, k, ◌⊕◌, ◌⊗◌, solve}
use Rattle.rational.specs.Fraction.{Fraction, whole, ◌+ℚ◌, ◌*ℚ◌}
use Rattle.rational.proofs.FieldLaws.{fraction-ring}
use Rattle.tableau.specs.FiniteSums.{sum_below, without, only}

-- ---- the test of two numbers
true_is : (b : Bool) → T b → b ≡ true
true_is true h = refl
true_is false h = absurd h

pub nat_eq-same : (n : ℕ) → nat_eq n n ≡ true
nat_eq-same n = true_is (nat_eq n n) (eqb_refl n)

pub nat_eq-true : (m n : ℕ) → nat_eq m n ≡ true → m ≡ n
nat_eq-true m n e = eqb→eq m n (subst T (sym e) tt)

pub nat_eq-apart : (m n : ℕ) → m ≢ n → nat_eq m n ≡ false
nat_eq-apart m n d = by_test (nat_eq m n) refl
  where
    by_test : (b : Bool) → nat_eq m n ≡ b → b ≡ false
    by_test true e = absurd (d (nat_eq-true m n e))
    by_test false e = refl

pub nat_eq-false : (m n : ℕ) → nat_eq m n ≡ false → m ≢ n
nat_eq-false m n e d = absurd (subst T (sym (subst (λ (i : ℕ). nat_eq m i ≡ true) d (nat_eq-same m)) ∙ e) tt)

-- ---- sums
pub sum_same : (n : ℕ) (f g : ℕ → Fraction) → ((j : ℕ) → j < n → f j ≡ g j) → sum_below n f ≡ sum_below n g
sum_same zero f g h = refl
sum_same (suc n) f g h = ap (λ w. w +ℚ f n) (sum_same n f g (λ j l. h j (omega arith))) ∙ ap (λ w. sum_below n g +ℚ w) (h n (omega arith))

pub sum_zero : (n : ℕ) (f : ℕ → Fraction) → ((j : ℕ) → j < n → f j ≡ whole (pos 0)) → sum_below n f ≡ whole (pos 0)
sum_zero zero f h = refl
sum_zero (suc n) f h = ap (λ w. w +ℚ f n) (sum_zero n f (λ j l. h j (omega arith))) ∙ ap (λ w. whole (pos 0) +ℚ w) (h n (omega arith)) ∙ solve fraction-ring (k (pos 0) ⊕ k (pos 0)) (k (pos 0)) [] refl

pub sum_add : (n : ℕ) (f g : ℕ → Fraction) → sum_below n (λ j. f j +ℚ g j) ≡ sum_below n f +ℚ sum_below n g
sum_add zero f g = solve fraction-ring (k (pos 0)) (k (pos 0) ⊕ k (pos 0)) [] refl
sum_add (suc n) f g = ap (λ w. w +ℚ (f n +ℚ g n)) (sum_add n f g) ∙ solve fraction-ring ((v 0 ⊕ v 1) ⊕ (v 2 ⊕ v 3)) ((v 0 ⊕ v 2) ⊕ (v 1 ⊕ v 3)) (sum_below n f ∷ sum_below n g ∷ f n ∷ g n ∷ []) refl

pub sum_multiple : (n : ℕ) (c : Fraction) (f : ℕ → Fraction) → sum_below n (λ j. c *ℚ f j) ≡ c *ℚ sum_below n f
sum_multiple zero c f = solve fraction-ring (k (pos 0)) (v 0 ⊗ k (pos 0)) (c ∷ []) refl
sum_multiple (suc n) c f = ap (λ w. w +ℚ c *ℚ f n) (sum_multiple n c f) ∙ solve fraction-ring (v 0 ⊗ v 1 ⊕ v 0 ⊗ v 2) (v 0 ⊗ (v 1 ⊕ v 2)) (c ∷ sum_below n f ∷ f n ∷ []) refl

-- ---- one place
pub only-same : (i : ℕ) (x : Fraction) → only i x i ≡ x
only-same i x = rw (nat_eq-same i)

pub only-other : (i : ℕ) (x : Fraction) (j : ℕ) → j ≢ i → only i x j ≡ whole (pos 0)
only-other i x j d = rw (nat_eq-apart j i d)

pub without-same : (i : ℕ) (f : ℕ → Fraction) → without i f i ≡ whole (pos 0)
without-same i f = rw (nat_eq-same i)

pub without-other : (i : ℕ) (f : ℕ → Fraction) (j : ℕ) → j ≢ i → without i f j ≡ f j
without-other i f j d = rw (nat_eq-apart j i d)

pub sum_only : (n i : ℕ) (x : Fraction) → i < n → sum_below n (only i x) ≡ x
sum_only zero i x h = absurd (omega arith)
sum_only (suc n) i x h = by_test (nat_eq n i) refl (λ l. sum_only n i x l)
  where
    by_test : (b : Bool) → nat_eq n i ≡ b → (i < n → sum_below n (only i x) ≡ x) → sum_below n (only i x) +ℚ only i x n ≡ x
    by_test true e before =
        let s : n ≡ i = nat_eq-true n i e in
        ap (λ w. w +ℚ only i x n) (sum_zero n (only i x) (λ j l. only-other i x j (omega arith)))
        ∙ ap (λ w. whole (pos 0) +ℚ w) (ap (only i x) s ∙ only-same i x) ∙ solve fraction-ring (k (pos 0) ⊕ v 0) (v 0) (x ∷ []) refl
    by_test false e before =
        let d : n ≢ i = nat_eq-false n i e in
        ap (λ w. w +ℚ only i x n) (before (omega arith)) ∙ ap (λ w. x +ℚ w) (only-other i x n d) ∙ solve fraction-ring (v 0 ⊕ k (pos 0)) (v 0) (x ∷ []) refl

-- a sum is what stands at one place and the rest
pub sum_split : (n i : ℕ) (f : ℕ → Fraction) → i < n → sum_below n f ≡ f i +ℚ sum_below n (without i f)
sum_split n i f h =
    sum_same n f (λ j. only i (f i) j +ℚ without i f j) (λ j l. by_test j (nat_eq j i) refl) ∙ sum_add n (only i (f i)) (without i f)
    ∙ ap (λ w. w +ℚ sum_below n (without i f)) (sum_only n i (f i) h)
  where
    by_test : (j : ℕ) (b : Bool) → nat_eq j i ≡ b → f j ≡ only i (f i) j +ℚ without i f j
    by_test j true e =
        let s : j ≡ i = nat_eq-true j i e in
        ap f s ∙ solve fraction-ring (v 0) (v 0 ⊕ k (pos 0)) (f i ∷ []) refl ∙ sym (ap (λ (b : Bool). cond b (f i) (whole (pos 0)) +ℚ cond b (whole (pos 0)) (f j)) e)
    by_test j false e =
        solve fraction-ring (v 0) (k (pos 0) ⊕ v 0) (f j ∷ []) refl ∙ sym (ap (λ (b : Bool). cond b (f i) (whole (pos 0)) +ℚ cond b (whole (pos 0)) (f j)) e)
