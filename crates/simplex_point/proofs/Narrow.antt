-- Why the least quotient is small enough.
use Rattle.std.proofs.Common.{◌≡◌, ◌⊎◌, inl, inr, ℕ, ◌<◌, ◌+◌, Bool, true, false, cond, Option, Some, None, Result, Ok, Err, [], ◌∷◌, refl, sym, ap, subst, ◌∙◌, arith}
use Rattle.std.proofs.lemmas.Bool.{cases_eq}
use lib.IntN.{pos, negsuc}
use Rattle.algebra.proofs.Solve.{v, k, ◌⊕◌, ◌⊖◌, ◌⊗◌, inv, eq, bound_from, strict_from, le, lt, done}
use Rattle.rational.specs.Fraction.{Fraction, whole, ◌-ℚ◌, inv_ℚ, ◌≤ℚ◌, ◌<ℚ◌, IsPositive}
use Rattle.rational.specs.Farkas.{InOrder}
use Rattle.rational.proofs.Signs.{fraction-order, mul_positive, weaken_positive}
use Rattle.rational.proofs.OrderLaws.{at_most_or_above, ≤ℚ_refl, ≤ℚ_trans, inv_positive, positive_apart, positive-iff}
use Rattle.rational.proofs.Division.{mul-inv}
use Rattle.frac128.specs.declared.operations.Wide.{Wide}
use Rattle.simplex_law.specs.Pairs.{◌≤ₚ◌, at_small}
use Rattle.simplex_law.specs.Bounds.{lower_pair, upper_pair, MeetsLower, MeetsUpper, OnLower, OnUpper}
use Rattle.simplex_law.specs.Config.{Limits, lower_of, upper_of, IsOn, MeetsAll}
use Rattle.simplex_law.specs.declared.pair.Pair.{Pair}
use Rattle.simplex_law.specs.declared.bound.Bound.{Bound}
use Rattle.simplex_point.specs.Point.{IsNarrow, quotient_of, IsAsked, IsInfinitesimal, InfinitesimalPasses}
use Rattle.simplex_point.specs.inside.Narrowing.{NarrowedAnswers, LowerAnswers, UpperAnswers}

-- ---- what it gives
pub positive_quotient : (x y : Pair) → IsNarrow x y → IsPositive (quotient_of x y)
positive_quotient x y n = mul_positive (y.main -ℚ x.main) (inv_ℚ (x.small -ℚ y.small)) n.0.lt (inv_positive (x.small -ℚ y.small) n.1.lt)

pub gap_apart : (x y : Pair) → IsNarrow x y → x.small -ℚ y.small ≡ whole (pos 0) → ⊥
gap_apart x y n = positive_apart (x.small -ℚ y.small) n.1.lt

-- pairs in order are in order at d
in_order : (x y : Pair) (d : Fraction) → x ≤ₚ y → IsPositive d → (IsNarrow x y → d ≤ℚ quotient_of x y) → at_small x d ≤ℚ at_small y d
in_order x y d (inr h) n m =
    bound_from fraction-order (v 0 ⊕ v 1 ⊗ v 4) (v 2 ⊕ v 3 ⊗ v 4) (x.main ∷ x.small ∷ y.main ∷ y.small ∷ d ∷ [])
    (eq (k (pos 1)) (v 0) (v 2) h.0 (le (v 4) (v 1) (v 3) (weaken_positive d n) h.1 done)) refl
in_order x y d (inl h) n m = by_order (at_most_or_above x.small y.small)
  where
    by_order : (x.small ≤ℚ y.small) ⊎ (y.small <ℚ x.small) → at_small x d ≤ℚ at_small y d
    by_order (inl s) =
        bound_from fraction-order (v 0 ⊕ v 1 ⊗ v 4) (v 2 ⊕ v 3 ⊗ v 4) (x.main ∷ x.small ∷ y.main ∷ y.small ∷ d ∷ [])
        (lt (k (pos 1)) (v 0) (v 2) tt h (le (v 4) (v 1) (v 3) (weaken_positive d n) s done)) refl
    by_order (inr s) =
        let gap = x.small -ℚ y.small in
        bound_from fraction-order (v 0 ⊕ v 1 ⊗ v 4) (v 2 ⊕ v 3 ⊗ v 4) (x.main ∷ x.small ∷ y.main ∷ y.small ∷ d ∷ inv_ℚ gap ∷ [])
        (le (v 1 ⊖ v 3) (v 4) ((v 2 ⊖ v 0) ⊗ v 5) (weaken_positive gap s.lt) (m (h, s))
        (eq (v 2 ⊖ v 0) ((v 1 ⊖ v 3) ⊗ v 5) (k (pos 1)) (mul-inv gap (positive_apart gap s.lt)) done)) refl

lower_at : (b : Bound) (x : Pair) (d : Fraction) → IsPositive d → at_small (lower_pair b) d ≤ℚ at_small x d → (s : Bool) → b.strict ≡ s → InOrder s b.value (at_small x d)
lower_at b x d n g true e =
    strict_from fraction-order (v 0) (v 1) (b.value ∷ at_small x d ∷ d ∷ (lower_pair b).small ∷ [])
    (le (k (pos 1)) (v 0 ⊕ v 3 ⊗ v 2) (v 1) tt g (eq (inv (v 2)) (v 3) (k (pos 1)) (ap (λ (c : Bool). cond c (whole (pos 1)) (whole (pos 0))) e) (lt (k (pos 1)) (k (pos 0)) (v 2) tt ((positive-iff d).0 n) done))) tt refl
lower_at b x d n g false e =
    bound_from fraction-order (v 0) (v 1) (b.value ∷ at_small x d ∷ d ∷ (lower_pair b).small ∷ [])
    (le (k (pos 1)) (v 0 ⊕ v 3 ⊗ v 2) (v 1) tt g (eq (inv (v 2)) (v 3) (k (pos 0)) (ap (λ (c : Bool). cond c (whole (pos 1)) (whole (pos 0))) e) done)) refl

upper_at : (b : Bound) (x : Pair) (d : Fraction) → IsPositive d → at_small x d ≤ℚ at_small (upper_pair b) d → (s : Bool) → b.strict ≡ s → InOrder s (at_small x d) b.value
upper_at b x d n g true e =
    strict_from fraction-order (v 1) (v 0) (b.value ∷ at_small x d ∷ d ∷ (upper_pair b).small ∷ [])
    (le (k (pos 1)) (v 1) (v 0 ⊕ v 3 ⊗ v 2) tt g (eq (v 2) (v 3) (k (negsuc 0)) (ap (λ (c : Bool). cond c (whole (negsuc 0)) (whole (pos 0))) e) (lt (k (pos 1)) (k (pos 0)) (v 2) tt ((positive-iff d).0 n) done))) tt refl
upper_at b x d n g false e =
    bound_from fraction-order (v 1) (v 0) (b.value ∷ at_small x d ∷ d ∷ (upper_pair b).small ∷ [])
    (le (k (pos 1)) (v 1) (v 0 ⊕ v 3 ⊗ v 2) tt g (eq (v 2) (v 3) (k (pos 0)) (ap (λ (c : Bool). cond c (whole (negsuc 0)) (whole (pos 0))) e) done)) refl

positive : (l : Limits) (value : ℕ → Pair) (n : ℕ) (d : Fraction) → (d ≡ whole (pos 1)) ⊎ ((x : Pair) × (y : Pair) × IsAsked l value n x y × IsNarrow x y × (d ≡ quotient_of x y)) → IsPositive d
positive l value n d (inl e) = subst IsPositive (sym e) tt
positive l value n d (inr (x, y, a, m, e)) = subst IsPositive (sym e) (positive_quotient x y m)

pub makes_a_point : (l : Limits) (value : ℕ → Pair) (n : ℕ) (d : Fraction) → IsInfinitesimal l value n d → ((i : ℕ) → i < n → IsOn l i (value i)) → IsPositive d × MeetsAll l n (λ i. at_small (value i) d)
makes_a_point l value n d h on = (p, (λ i li. (lower i li (lower_of l i) refl (on i li).0, upper i li (upper_of l i) refl (on i li).1)))
  where
    p : IsPositive d
    p = positive l value n d h.attained

    lower : (i : ℕ) → i < n → (o : Option Bound) → lower_of l i ≡ o → OnLower o (value i) → MeetsLower o (at_small (value i) d)
    lower i li None e g = tt
    lower i li (Some b) e g = lower_at b (value i) d (positive l value n d h.attained) (in_order (lower_pair b) (value i) d g (positive l value n d h.attained) (h.least (lower_pair b) (value i) (i, li, inl (b, e, refl, refl)))) b.strict refl

    upper : (i : ℕ) → i < n → (o : Option Bound) → upper_of l i ≡ o → OnUpper o (value i) → MeetsUpper o (at_small (value i) d)
    upper i li None e g = tt
    upper i li (Some b) e g = upper_at b (value i) d (positive l value n d h.attained) (in_order (value i) (upper_pair b) d g (positive l value n d h.attained) (h.least (value i) (upper_pair b) (i, li, inr (b, e, refl, refl)))) b.strict refl

-- ---- how it is found
pub least_none : (l : Limits) (value : ℕ → Pair) (d : Fraction) → d ≡ whole (pos 1) → IsInfinitesimal l value 0 d
least_none l value d e = record { most = subst (λ (x : Fraction). x ≤ℚ whole (pos 1)) (sym e) (≤ℚ_refl (whole (pos 1))); least = λ x y a n. absurd (omega (arith, a.1)); attained = inl e }

-- what one more variable answers, without its bounds
pub record Lowers (P : Pair → Pair → Type 0) (d e : Fraction) : Type 0 where
  pub most : e ≤ℚ d
  pub least : (x y : Pair) → P x y → IsNarrow x y → e ≤ℚ quotient_of x y
  pub attained : (e ≡ d) ⊎ ((x : Pair) × (y : Pair) × P x y × IsNarrow x y × (e ≡ quotient_of x y))

abbrev pub AskedBelow : Limits → (ℕ → Pair) → ℕ → Pair → Pair → Type 0
AskedBelow l value i x y = (b : Bound) × (lower_of l i ≡ Some b) × (x ≡ lower_pair b) × (y ≡ value i)

abbrev pub AskedAbove : Limits → (ℕ → Pair) → ℕ → Pair → Pair → Type 0
AskedAbove l value i x y = (b : Bound) × (upper_of l i ≡ Some b) × (x ≡ value i) × (y ≡ upper_pair b)

same_some : (o : Option Bound) (b c : Bound) → o ≡ Some b → o ≡ Some c → b ≡ c
same_some o b c p q = cc

lowers_some : (P : Pair → Pair → Type 0) (x y : Pair) (d e : Fraction) → P x y → ((x' y' : Pair) → P x' y' → (x' ≡ x) × (y' ≡ y)) → NarrowedAnswers d x y (Ok e) → Lowers P d e
lowers_some P x y d e p one h = record {
  most = h.0;
  least = λ x' y' q n. let s = one x' y' q in
      let f : Pair → Type 0 = λ u. IsNarrow u y' → e ≤ℚ quotient_of u y' in
      let g : Pair → Type 0 = λ u. IsNarrow x u → e ≤ℚ quotient_of x u in
      subst f (sym s.0) (subst g (sym s.1) h.1) n;
  attained = by_case h.2;
}
  where
    by_case : (e ≡ d) ⊎ (IsNarrow x y × (e ≡ quotient_of x y)) → (e ≡ d) ⊎ ((x : Pair) × (y : Pair) × P x y × IsNarrow x y × (e ≡ quotient_of x y))
    by_case (inl s) = inl s
    by_case (inr s) = inr (x, y, p, s.0, s.1)

lowers_none : (P : Pair → Pair → Type 0) (d e : Fraction) → e ≡ d → ((x y : Pair) → P x y → ⊥) → Lowers P d e
lowers_none P d e s none = record { most = subst (λ (z : Fraction). e ≤ℚ z) s (≤ℚ_refl e); least = λ x y p n. absurd (none x y p); attained = inl s }

ok_same : (a b : Fraction) (r : Result Fraction Wide) → r ≡ Ok a → r ≡ Ok b → b ≡ a
ok_same a b r p q = cc

pub lower_lowers : (l : Limits) (value : ℕ → Pair) (i : ℕ) (d e : Fraction) (o : Option Bound) → lower_of l i ≡ o → LowerAnswers d o (value i) (Ok e) → Lowers (AskedBelow l value i) d e
lower_lowers l value i d e None s h = lowers_none (AskedBelow l value i) d e (ok_same d e (Ok e) h refl) (λ x y p. let c : lower_of l i ≡ Some p.0 = p.1 in let a : lower_of l i ≡ None = s in cc)
lower_lowers l value i d e (Some b) s h = lowers_some (AskedBelow l value i) (lower_pair b) (value i) d e (b, s, refl, refl) (λ x' y' p. (p.2 ∙ ap lower_pair (same_some (lower_of l i) p.0 b p.1 s), p.3)) h

pub upper_lowers : (l : Limits) (value : ℕ → Pair) (i : ℕ) (d e : Fraction) (o : Option Bound) → upper_of l i ≡ o → UpperAnswers d o (value i) (Ok e) → Lowers (AskedAbove l value i) d e
upper_lowers l value i d e None s h = lowers_none (AskedAbove l value i) d e (ok_same d e (Ok e) h refl) (λ x y p. let c : upper_of l i ≡ Some p.0 = p.1 in let a : upper_of l i ≡ None = s in cc)
upper_lowers l value i d e (Some b) s h = lowers_some (AskedAbove l value i) (value i) (upper_pair b) d e (b, s, refl, refl) (λ x' y' p. (p.2, p.3 ∙ ap upper_pair (same_some (upper_of l i) p.0 b p.1 s))) h

pub least_more : (l : Limits) (value : ℕ → Pair) (i : ℕ) (d e f : Fraction) → IsInfinitesimal l value i d → Lowers (AskedBelow l value i) d e → Lowers (AskedAbove l value i) e f → IsInfinitesimal l value (i + 1) f
least_more l value i d e f h low high = record {
  most = ≤ℚ_trans f e (whole (pos 1)) high.most (≤ℚ_trans e d (whole (pos 1)) low.most h.most);
  least = λ x y a n. by_asked x y n a (cases_eq a.0 i);
  attained = by_high high.attained;
}
  where
    by_bound : (x y : Pair) → IsNarrow x y → (j : ℕ) → j ≡ i → (((b : Bound) × (lower_of l j ≡ Some b) × (x ≡ lower_pair b) × (y ≡ value j)) ⊎ ((b : Bound) × (upper_of l j ≡ Some b) × (x ≡ value j) × (y ≡ upper_pair b))) → f ≤ℚ quotient_of x y
    by_bound x y n j s (inl p) = ≤ℚ_trans f e (quotient_of x y) high.most (low.least x y (subst (λ (m : ℕ). AskedBelow l value m x y) s p) n)
    by_bound x y n j s (inr p) = high.least x y (subst (λ (m : ℕ). AskedAbove l value m x y) s p) n

    by_asked : (x y : Pair) → IsNarrow x y → (a : IsAsked l value (i + 1) x y) → (a.0 ≡ i) ⊎ (a.0 ≡ i → ⊥) → f ≤ℚ quotient_of x y
    by_asked x y n a (inl s) = by_bound x y n a.0 s a.2
    by_asked x y n a (inr s) = ≤ℚ_trans f e (quotient_of x y) high.most (≤ℚ_trans e d (quotient_of x y) low.most (h.least x y (a.0, omega (arith, a.1), a.2) n))

    by_old : (d ≡ whole (pos 1)) ⊎ ((x : Pair) × (y : Pair) × IsAsked l value i x y × IsNarrow x y × (d ≡ quotient_of x y)) → (d ≡ whole (pos 1)) ⊎ ((x : Pair) × (y : Pair) × IsAsked l value (i + 1) x y × IsNarrow x y × (d ≡ quotient_of x y))
    by_old (inl s) = inl s
    by_old (inr (x, y, a, n, s)) = inr (x, y, (a.0, omega (arith, a.1), a.2), n, s)

    by_low : (e ≡ d) ⊎ ((x : Pair) × (y : Pair) × AskedBelow l value i x y × IsNarrow x y × (e ≡ quotient_of x y)) → (e ≡ whole (pos 1)) ⊎ ((x : Pair) × (y : Pair) × IsAsked l value (i + 1) x y × IsNarrow x y × (e ≡ quotient_of x y))
    by_low (inl s) = subst (λ (z : Fraction). (z ≡ whole (pos 1)) ⊎ ((x : Pair) × (y : Pair) × IsAsked l value (i + 1) x y × IsNarrow x y × (z ≡ quotient_of x y))) (sym s) (by_old h.attained)
    by_low (inr (x, y, p, n, s)) = inr (x, y, (i, omega arith, inl p), n, s)

    by_high : (f ≡ e) ⊎ ((x : Pair) × (y : Pair) × AskedAbove l value i x y × IsNarrow x y × (f ≡ quotient_of x y)) → (f ≡ whole (pos 1)) ⊎ ((x : Pair) × (y : Pair) × IsAsked l value (i + 1) x y × IsNarrow x y × (f ≡ quotient_of x y))
    by_high (inl s) = subst (λ (z : Fraction). (z ≡ whole (pos 1)) ⊎ ((x : Pair) × (y : Pair) × IsAsked l value (i + 1) x y × IsNarrow x y × (z ≡ quotient_of x y))) (sym s) (by_low low.attained)
    by_high (inr (x, y, p, n, s)) = inr (x, y, (i, omega arith, inr p), n, s)

-- ---- where an operation passes
pub lower_passes : (l : Limits) (value : ℕ → Pair) (i n : ℕ) (d : Fraction) (w : Wide) → i < n → (o : Option Bound) → lower_of l i ≡ o → LowerAnswers d o (value i) (Err w) → InfinitesimalPasses l value n w
lower_passes l value i n d w li None s h = absurd (let no_way : ⊥ = cc in no_way)
lower_passes l value i n d w li (Some b) s h = (lower_pair b, value i, (i, li, inl (b, s, refl, refl)), h)

pub upper_passes : (l : Limits) (value : ℕ → Pair) (i n : ℕ) (d : Fraction) (w : Wide) → i < n → (o : Option Bound) → upper_of l i ≡ o → UpperAnswers d o (value i) (Err w) → InfinitesimalPasses l value n w
upper_passes l value i n d w li None s h = absurd (let no_way : ⊥ = cc in no_way)
upper_passes l value i n d w li (Some b) s h = (value i, upper_pair b, (i, li, inr (b, s, refl, refl)), h)
