-- What holds for each positive d that is small enough.
use Rattle.std.proofs.Common.{◌≡◌, ◌⊎◌, inl, inr, ℕ, zero, suc, ◌<◌, Bool, true, false, Option, Some, None, cond, [], ◌∷◌, refl, sym, ap, subst, arith}
use Rattle.std.proofs.lemmas.Bool.{cases_eq}
use lib.IntN.{pos, negsuc}
use Rattle.algebra.proofs.Solve.{v, k, ◌⊕◌, ◌⊖◌, ◌⊗◌, inv, eq, bound_from, strict_from, le, lt, done}
use Rattle.rational.specs.Fraction.{Fraction, whole, ◌*ℚ◌, ◌-ℚ◌, inv_ℚ, ◌≤ℚ◌, ◌<ℚ◌, IsPositive}
use Rattle.rational.specs.Farkas.{InOrder}
use Rattle.rational.proofs.Signs.{fraction-order, mul_positive, weaken_positive}
use Rattle.rational.proofs.OrderLaws.{at_most_or_above, ≤ℚ_refl, ≤ℚ_trans, <ℚ-weaken, inv_positive, positive_apart, positive-iff}
use Rattle.rational.proofs.Division.{mul-inv}
use Rattle.simplex_law.specs.Pairs.{◌≤ₚ◌, at_small, HoldsSmall}
use Rattle.simplex_law.specs.Bounds.{lower_pair, upper_pair, MeetsLower, MeetsUpper, OnLower, OnUpper}
use Rattle.simplex_law.specs.declared.pair.Pair.{Pair}
use Rattle.simplex_law.specs.declared.bound.Bound.{Bound}

module _ (P Q : Fraction → Type 0) where
  pub both : HoldsSmall P → HoldsSmall Q → HoldsSmall (λ d. P d × Q d)
  both (e, p, h) (f, q, g) = by_order (at_most_or_above e f)
    where
      by_order : (e ≤ℚ f) ⊎ (f <ℚ e) → HoldsSmall (λ d. P d × Q d)
      by_order (inl l) = (e, p, (λ d n m. (h d n m, g d n (≤ℚ_trans _ _ _ m l))))
      by_order (inr l) = (f, q, (λ d n m. (h d n (≤ℚ_trans _ _ _ m (<ℚ-weaken _ _ l)), g d n m)))

  pub weaker : ((d : Fraction) → IsPositive d → P d → Q d) → HoldsSmall P → HoldsSmall Q
  weaker w (e, p, h) = (e, p, (λ d n m. w d n (h d n m)))

module _ (P : ℕ → Fraction → Type 0) where
  pub all_below : (n : ℕ) → ((i : ℕ) → i < n → HoldsSmall (P i)) → HoldsSmall (λ d. (i : ℕ) → i < n → P i d)
  all_below zero h = (whole (pos 1), tt, (λ d n m i l. absurd (omega arith)))
  all_below (suc n) h =
      weaker (λ d. ((i : ℕ) → i < n → P i d) × P n d) (λ d. (i : ℕ) → i < suc n → P i d) (λ d p x i l. pick d x i l (cases_eq i n)) (both (λ d. (i : ℕ) → i < n → P i d) (P n) (all_below n (λ i l. h i (omega arith))) (h n (omega arith)))
    where
      pick : (d : Fraction) → ((i : ℕ) → i < n → P i d) × P n d → (i : ℕ) → i < suc n → (i ≡ n) ⊎ (i ≡ n → ⊥) → P i d
      pick d x i l (inl s) = let f : ℕ → Type 0 = λ m. P m d in subst f (sym s) x.1
      pick d x i l (inr s) = x.0 i (omega arith)

pub some_small : (P : Fraction → Type 0) → HoldsSmall P → (d : Fraction) × IsPositive d × P d
some_small P (e, p, h) = (e, p, h e p (≤ℚ_refl e))

-- pairs in order are in order for each small d
pub pair_small : (x y : Pair) → x ≤ₚ y → HoldsSmall (λ d. at_small x d ≤ℚ at_small y d)
pair_small x y (inr h) = (
  whole (pos 1),
  tt,
  (λ d n m. bound_from fraction-order (v 0 ⊕ v 1 ⊗ v 4) (v 2 ⊕ v 3 ⊗ v 4) (x.main ∷ x.small ∷ y.main ∷ y.small ∷ d ∷ [])
      (eq (k (pos 1)) (v 0) (v 2) h.0 (le (v 4) (v 1) (v 3) (weaken_positive d n) h.1 done)) refl),
)
pair_small x y (inl h) = by_order (at_most_or_above x.small y.small)
  where
    by_order : (x.small ≤ℚ y.small) ⊎ (y.small <ℚ x.small) → HoldsSmall (λ d. at_small x d ≤ℚ at_small y d)
    by_order (inl s) = (
      whole (pos 1),
      tt,
      (λ d n m. bound_from fraction-order (v 0 ⊕ v 1 ⊗ v 4) (v 2 ⊕ v 3 ⊗ v 4) (x.main ∷ x.small ∷ y.main ∷ y.small ∷ d ∷ [])
          (lt (k (pos 1)) (v 0) (v 2) tt h (le (v 4) (v 1) (v 3) (weaken_positive d n) s done)) refl),
    )
    by_order (inr s) =
        let gap = x.small -ℚ y.small in
        let e = (y.main -ℚ x.main) *ℚ inv_ℚ gap in (
          e,
          mul_positive (y.main -ℚ x.main) (inv_ℚ gap) h.lt (inv_positive gap s.lt),
          (λ d n m. bound_from fraction-order (v 0 ⊕ v 1 ⊗ v 4) (v 2 ⊕ v 3 ⊗ v 4) (x.main ∷ x.small ∷ y.main ∷ y.small ∷ d ∷ inv_ℚ gap ∷ [])
              (le (v 1 ⊖ v 3) (v 4) ((v 2 ⊖ v 0) ⊗ v 5) (weaken_positive gap s.lt) m
              (eq (v 2 ⊖ v 0) ((v 1 ⊖ v 3) ⊗ v 5) (k (pos 1)) (mul-inv gap (positive_apart gap s.lt)) done)) refl),
        )

-- a value on its bounds, as a pair, meets them for each small d
pub lower_small : (b : Option Bound) (x : Pair) → OnLower b x → HoldsSmall (λ d. MeetsLower b (at_small x d))
lower_small None x h = (whole (pos 1), tt, (λ d n m. tt))
lower_small (Some b) x h = weaker (λ d. at_small (lower_pair b) d ≤ℚ at_small x d) (λ d. InOrder b.strict b.value (at_small x d)) (λ d n g. by_kind d n g b.strict refl) (pair_small (lower_pair b) x h)
  where
    by_kind : (d : Fraction) → IsPositive d → at_small (lower_pair b) d ≤ℚ at_small x d → (s : Bool) → b.strict ≡ s → InOrder s b.value (at_small x d)
    by_kind d n g true e =
        strict_from fraction-order (v 0) (v 1) (b.value ∷ at_small x d ∷ d ∷ (lower_pair b).small ∷ [])
        (le (k (pos 1)) (v 0 ⊕ v 3 ⊗ v 2) (v 1) tt g (eq (inv (v 2)) (v 3) (k (pos 1)) (ap (λ (c : Bool). cond c (whole (pos 1)) (whole (pos 0))) e) (lt (k (pos 1)) (k (pos 0)) (v 2) tt ((positive-iff d).0 n) done))) tt refl
    by_kind d n g false e =
        bound_from fraction-order (v 0) (v 1) (b.value ∷ at_small x d ∷ d ∷ (lower_pair b).small ∷ [])
        (le (k (pos 1)) (v 0 ⊕ v 3 ⊗ v 2) (v 1) tt g (eq (inv (v 2)) (v 3) (k (pos 0)) (ap (λ (c : Bool). cond c (whole (pos 1)) (whole (pos 0))) e) done)) refl

pub upper_small : (b : Option Bound) (x : Pair) → OnUpper b x → HoldsSmall (λ d. MeetsUpper b (at_small x d))
upper_small None x h = (whole (pos 1), tt, (λ d n m. tt))
upper_small (Some b) x h = weaker (λ d. at_small x d ≤ℚ at_small (upper_pair b) d) (λ d. InOrder b.strict (at_small x d) b.value) (λ d n g. by_kind d n g b.strict refl) (pair_small x (upper_pair b) h)
  where
    by_kind : (d : Fraction) → IsPositive d → at_small x d ≤ℚ at_small (upper_pair b) d → (s : Bool) → b.strict ≡ s → InOrder s (at_small x d) b.value
    by_kind d n g true e =
        strict_from fraction-order (v 1) (v 0) (b.value ∷ at_small x d ∷ d ∷ (upper_pair b).small ∷ [])
        (le (k (pos 1)) (v 1) (v 0 ⊕ v 3 ⊗ v 2) tt g (eq (v 2) (v 3) (k (negsuc 0)) (ap (λ (c : Bool). cond c (whole (negsuc 0)) (whole (pos 0))) e) (lt (k (pos 1)) (k (pos 0)) (v 2) tt ((positive-iff d).0 n) done))) tt refl
    by_kind d n g false e =
        bound_from fraction-order (v 1) (v 0) (b.value ∷ at_small x d ∷ d ∷ (upper_pair b).small ∷ [])
        (le (k (pos 1)) (v 1) (v 0 ⊕ v 3 ⊗ v 2) tt g (eq (v 2) (v 3) (k (pos 0)) (ap (λ (c : Bool). cond c (whole (negsuc 0)) (whole (pos 0))) e) done)) refl
