-- Layers end: the next layer is the same, or its measure is smaller.
use Rattle.std.proofs.Common.{◌≡◌, ℕ, suc, ◌+◌, ◌<◌, ◌≤◌, Bool, true, false, cond, not, List, [], ◌∷◌, length, refl, ap, ◌∙◌, Option, Some, None, ◌⊎◌, inl, inr, arith}
use Rattle.std.specs.List.{AllByRecursion}
use Rattle.rational.specs.Fraction.{Fraction, ◌≤ℚ◌}
use Rattle.rational.proofs.OrderLaws.{≤ℚ_refl, <ℚ_trans, ≤ℚ_antisym}
use Rattle.rational.specs.Linear.{coefficient_of}
use Rattle.task_core.specs.declared.action.GAction.{GAction}
use Rattle.task_core.specs.Step.{set_of, is_empty}
use Rattle.lin.specs.Linear.{Linear}
use Rattle.lin.specs.Normal.{is_zero}
use Rattle.relaxed.specs.declared.interval.End.{End}
use Rattle.relaxed.specs.declared.interval.End.TheVariants.{At, Infinite}
use Rattle.relaxed.specs.declared.interval.Interval.{Interval}
use Rattle.relaxed.specs.declared.range.Side.TheVariants.{Least, Greatest}
use Rattle.relaxed.specs.Interval.{is_at_most, lower, higher, between, hull, point}
use Rattle.relaxed.specs.Range.{is_positive, range_end}
use Rattle.relaxed.specs.Layers.{Layer, is_supported, stretched_low, stretched_high, reached_by_range, reached_by_amount, reached_by, reached, widened}
use Rattle.relaxed.proofs.Measure.{bit, count, left_low, left_high, left}
use Rattle.relaxed.proofs.Tests.{at_most-true, true-at_most, at_most-above, above-not}

abbrev pub Among : Fraction → List Fraction → Type 0
Among x [] = ⊥
Among x (y ∷ ys) = (y ≡ x) ⊎ Among x ys

-- ---- counting
count-le : (P Q : Fraction → Bool) → ((x : Fraction) → P x ≡ true → Q x ≡ true) → (xs : List Fraction) → count P xs ≤ count Q xs
count-le P Q h [] = omega arith
count-le P Q h (x ∷ xs) = by_tests (P x) refl (Q x) refl (count-le P Q h xs)
  where
    by_tests : (p : Bool) → P x ≡ p → (q : Bool) → Q x ≡ q → count P xs ≤ count Q xs → bit p + count P xs ≤ bit q + count Q xs
    by_tests true e true g ih = omega arith
    by_tests true e false g ih = absurd (let j = h x e in cc)
    by_tests false e true g ih = omega arith
    by_tests false e false g ih = omega arith

count-below : (P Q : Fraction → Bool) → ((x : Fraction) → P x ≡ true → Q x ≡ true) → (y : Fraction) → P y ≡ false → Q y ≡ true → (xs : List Fraction) → Among y xs → count P xs < count Q xs
count-below P Q h y f t [] a = absurd a
count-below P Q h y f t (x ∷ xs) (inl e) =
    let p : P x ≡ false = ap P e ∙ f in
    let q : Q x ≡ true = ap Q e ∙ t in
    let l = count-le P Q h xs in
    let bp : bit (P x) ≡ 0 = ap bit p in
    let bq : bit (Q x) ≡ 1 = ap bit q in
    omega arith
count-below P Q h y f t (x ∷ xs) (inr a) = by_tests (P x) refl (Q x) refl (count-below P Q h y f t xs a)
  where
    by_tests : (p : Bool) → P x ≡ p → (q : Bool) → Q x ≡ q → count P xs < count Q xs → bit p + count P xs < bit q + count Q xs
    by_tests true e true g ih = omega arith
    by_tests true e false g ih = absurd (let j = h x e in cc)
    by_tests false e true g ih = omega arith
    by_tests false e false g ih = omega arith

not_true : (b : Bool) → not b ≡ true → b ≡ false
not_true true h = absurd (cc)
not_true false h = refl

module _ (ks : List Fraction) where
  abbrev pub KnownEnd : End → Type 0
  KnownEnd Infinite = Unit {0}
  KnownEnd (At e) = Among e ks

  abbrev pub Known : Option Interval → Type 0
  Known None = Unit {0}
  Known (Some i) = KnownEnd i.low × KnownEnd i.high

  low-falls : (a b : End) → KnownEnd b → (lower a b ≡ a) ⊎ (left_low ks (lower a b) < left_low ks a)
  low-falls Infinite b h = inl refl
  low-falls (At x) Infinite h = inr (omega arith)
  low-falls (At x) (At y) h = by_test (is_at_most x y) refl
    where
      by_test : (b : Bool) → is_at_most x y ≡ b → (At (cond b x y) ≡ At x) ⊎ (left_low ks (At (cond b x y)) < left_low ks (At x))
      by_test true e = inl refl
      by_test false e =
          let lt = at_most-above x y e in
          let c = count-below (λ z. not (is_at_most y z)) (λ z. not (is_at_most x z))
          (λ z j. ap not (above-not x z (<ℚ_trans z y x (at_most-above y z (not_true (is_at_most y z) j)) lt)))
          y (ap not (true-at_most y y (≤ℚ_refl y))) (ap not e) ks h in
          inr (omega arith)

  high-falls : (a b : End) → KnownEnd b → (higher a b ≡ a) ⊎ (left_high ks (higher a b) < left_high ks a)
  high-falls Infinite b h = inl refl
  high-falls (At x) Infinite h = inr (omega arith)
  high-falls (At x) (At y) h = by_test (is_at_most x y) refl (is_at_most y x) refl
    where
      same : x ≤ℚ y → y ≤ℚ x → (At y ≡ At x)
      same a b = ap At (≤ℚ_antisym y x b a)

      by_test : (b : Bool) → is_at_most x y ≡ b → (d : Bool) → is_at_most y x ≡ d → (At (cond b y x) ≡ At x) ⊎ (left_high ks (At (cond b y x)) < left_high ks (At x))
      by_test false e d g = inl refl
      by_test true e true g = inl (same (at_most-true x y e) (at_most-true y x g))
      by_test true e false g =
          let lt = at_most-above y x g in
          let c = count-below (λ z. not (is_at_most z y)) (λ z. not (is_at_most z x))
          (λ z j. ap not (above-not z x (<ℚ_trans x y z lt (at_most-above z y (not_true (is_at_most z y) j)))))
          y (ap not (true-at_most y y (≤ℚ_refl y))) (ap not g) ks h in
          inr (omega arith)

  -- every interval with known ends has less left than none
  count-length : (P : Fraction → Bool) (xs : List Fraction) → count P xs ≤ length xs
  count-length P [] = omega arith
  count-length P (x ∷ xs) = by_test (P x) (count-length P xs)
    where
      by_test : (b : Bool) → count P xs ≤ length xs → bit b + count P xs ≤ suc (length xs)
      by_test true h = omega arith
      by_test false h = omega arith

  low-most : (e : End) → left_low ks e ≤ 1 + length ks
  low-most Infinite = omega arith
  low-most (At e) = let c = count-length (λ x. not (is_at_most e x)) ks in omega arith

  high-most : (e : End) → left_high ks e ≤ 1 + length ks
  high-most Infinite = omega arith
  high-most (At e) = let c = count-length (λ x. not (is_at_most x e)) ks in omega arith

  abbrev pub Falls : Option Interval → Option Interval → Type 0
  Falls j i = (j ≡ i) ⊎ (left ks j < left ks i)

  abbrev ends : End → End → Option Interval
  ends l h = Some (between l h)

  hull-falls : (i j : Option Interval) → Known j → Falls (hull i j) i
  hull-falls None None h = inl refl
  hull-falls None (Some j) h = let a = low-most j.low in let b = high-most j.high in inr (omega arith)
  hull-falls (Some i) None h = inl refl
  hull-falls (Some i) (Some j) h = both (low-falls i.low j.low h.0) (high-falls i.high j.high h.1)
    where
      both : (lower i.low j.low ≡ i.low) ⊎ (left_low ks (lower i.low j.low) < left_low ks i.low)
          → (higher i.high j.high ≡ i.high) ⊎ (left_high ks (higher i.high j.high) < left_high ks i.high)
          → Falls (Some (between (lower i.low j.low) (higher i.high j.high))) (Some i)
      both (inl a) (inl b) = inl (ap (λ w. ends w (higher i.high j.high)) a ∙ ap (λ w. ends i.low w) b)
      both (inl a) (inr b) = let e = ap (left_low ks) a in inr (omega arith)
      both (inr a) (inl b) = let e = ap (left_high ks) b in inr (omega arith)
      both (inr a) (inr b) = inr (omega arith)

  falls_trans : (a b c : Option Interval) → Falls b a → Falls c b → Falls c a
  falls_trans a b c (inl e) (inl g) = inl (g ∙ e)
  falls_trans a b c (inl e) (inr g) = let j = ap (left ks) e in inr (omega arith)
  falls_trans a b c (inr e) (inl g) = let j = ap (left ks) g in inr (omega arith)
  falls_trans a b c (inr e) (inr g) = inr (omega arith)

  -- ---- ends stay known
  lower-known : (a b : End) → KnownEnd a → KnownEnd b → KnownEnd (lower a b)
  lower-known Infinite b h j = tt
  lower-known (At x) Infinite h j = tt
  lower-known (At x) (At y) h j = by_test (is_at_most x y)
    where
      by_test : (b : Bool) → Among (cond b x y) ks
      by_test true = h
      by_test false = j

  higher-known : (a b : End) → KnownEnd a → KnownEnd b → KnownEnd (higher a b)
  higher-known Infinite b h j = tt
  higher-known (At x) Infinite h j = tt
  higher-known (At x) (At y) h j = by_test (is_at_most x y)
    where
      by_test : (b : Bool) → Among (cond b y x) ks
      by_test true = j
      by_test false = h

  hull-known : (i j : Option Interval) → Known i → Known j → Known (hull i j)
  hull-known None j h g = g
  hull-known (Some i) None h g = h
  hull-known (Some i) (Some j) h g = (lower-known i.low j.low h.0 g.0, higher-known i.high j.high h.1 g.1)

  stretched_low-known : (e r : End) → KnownEnd e → KnownEnd (stretched_low e r)
  stretched_low-known Infinite r h = tt
  stretched_low-known (At e) Infinite h = tt
  stretched_low-known (At e) (At r) h = by_test (is_at_most e r)
    where
      by_test : (b : Bool) → KnownEnd (cond b (At e) Infinite)
      by_test true = h
      by_test false = tt

  stretched_high-known : (e r : End) → KnownEnd e → KnownEnd (stretched_high e r)
  stretched_high-known Infinite r h = tt
  stretched_high-known (At e) Infinite h = tt
  stretched_high-known (At e) (At r) h = by_test (is_at_most r e)
    where
      by_test : (b : Bool) → KnownEnd (cond b (At e) Infinite)
      by_test true = h
      by_test false = tt

  range-known : (y : Layer) (l : Linear) (i : Option Interval) → Known i → Known (Some (reached_by_range y l i))
  range-known y l None h = (tt, tt)
  range-known y l (Some i) h = (stretched_low-known i.low (range_end Least _ l) h.0, stretched_high-known i.high (range_end Greatest _ l) h.1)

  inc-known : (c : Fraction) (i : Option Interval) → Known i → Known (reached_by_amount c i)
  inc-known c None h = tt
  inc-known c (Some i) h = by_tests (is_zero c) (is_positive c)
    where
      by_tests : (z b : Bool) → Known (cond z None (cond b (Some (between i.low Infinite)) (Some (between Infinite i.high))))
      by_tests true b = tt
      by_tests false true = (h.0, tt)
      by_tests false false = (tt, h.1)

  reached-known : (y : Layer) (i : Option Interval) (c : Fraction) (o : Option Linear) → Known i → ((l : Linear) → o ≡ Some l → Among l.constant ks) → Known (reached_by y i c o)
  reached-known y i c None h g = inc-known c i h
  reached-known y i c (Some l) h g = by_test (is_empty l.terms)
    where
      by_test : (b : Bool) → Known (Some (cond b (point l.constant) (reached_by_range y l i)))
      by_test true = (g l refl, g l refl)
      by_test false = range-known y l i h

  module _ (y : Layer) (f : ℕ) (old : Known (y.interval f)) where
    abbrev pub SetsKnown : List GAction → Type 0
    SetsKnown acts = AllByRecursion (λ (a : GAction). (l : Linear) → set_of a.sets f ≡ Some l → Among l.constant ks) acts

    step-known : (a : GAction) → ((l : Linear) → set_of a.sets f ≡ Some l → Among l.constant ks) → Known (reached y f a)
    step-known a g = reached-known y (y.interval f) (coefficient_of f a.incs) (set_of a.sets f) old g

    pub widened-known : (acts : List GAction) (i : Option Interval) → SetsKnown acts → Known i → Known (widened y f acts i)
    widened-known [] i g h = h
    widened-known (a ∷ more) i g h = widened-known more (cond (is_supported y a) (hull i (reached y f a)) i) g.1 (by_test (is_supported y a))
      where
        by_test : (b : Bool) → Known (cond b (hull i (reached y f a)) i)
        by_test true = hull-known i (reached y f a) h (step-known a g.0)
        by_test false = h

    pub widened-falls : (acts : List GAction) (i : Option Interval) → SetsKnown acts → Falls (widened y f acts i) i
    widened-falls [] i g = inl refl
    widened-falls (a ∷ more) i g =
        let j = cond (is_supported y a) (hull i (reached y f a)) i in
        falls_trans i j (widened y f more j) (by_test (is_supported y a)) (widened-falls more j g.1)
      where
        by_test : (b : Bool) → Falls (cond b (hull i (reached y f a)) i) i
        by_test true = hull-falls i (reached y f a) (step-known a g.0)
        by_test false = inl refl
