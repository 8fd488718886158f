-- The tests on what a comparison answers, as the tests of the order.
use Rattle.std.proofs.Common.{◌≡◌, Bool, true, false, not, ◌&&◌, refl, sym, ap, ap₂, subst, ◌∙◌}
use Rattle.std.specs.Ordering.{is_lt, is_le, is_eq, is_ge, is_gt}
use Rattle.std.specs.declared.cmp.Ordering.{Ordering}
use Rattle.std.specs.declared.cmp.Ordering.TheVariants.{Less, Equal, Greater}
use lib.Dec.{T}
use Rattle.rational.specs.Fraction.{Fraction, ◌<ℚ◌}
use Rattle.rational.proofs.OrderLaws.{<ℚ_irrefl, <ℚ_trans}
use Rattle.frac128.specs.Order.{Compares}
use Rattle.plan_step.specs.Order.{is_less}

passes : (b : Bool) → T b → b ≡ true
passes true h = refl
passes false h = absurd h

fails : (b : Bool) → (T b → ⊥) → b ≡ false
fails true h = absurd (h tt)
fails false h = refl

less : (x y : Fraction) → x <ℚ y → is_less x y ≡ true
less x y h = passes (is_less x y) h.lt

not_less : (x y : Fraction) → (x <ℚ y → ⊥) → is_less x y ≡ false
not_less x y h = fails (is_less x y) (λ t. h (record { lt = t }))

-- the two tests of the order, where one is less than the other
above : (x y : Fraction) → x <ℚ y → is_less y x ≡ false
above x y h = not_less y x (λ k. <ℚ_irrefl x (<ℚ_trans x y x h k))

same : (x y : Fraction) → x ≡ y → (is_less x y ≡ false) × (is_less y x ≡ false)
same x y e = (not_less x y (λ k. <ℚ_irrefl x (subst (λ z. x <ℚ z) (sym e) k)), not_less y x (λ k. <ℚ_irrefl x (subst (λ z. z <ℚ x) (sym e) k)))

module _ (x y : Fraction) where
  pub by_lt : (o : Ordering) → Compares x y o → is_lt o ≡ is_less x y
  by_lt Less h = sym (less x y h)
  by_lt Equal h = sym (same x y h).0
  by_lt Greater h = sym (above y x h)

  pub by_gt : (o : Ordering) → Compares x y o → is_gt o ≡ is_less y x
  by_gt Less h = sym (above x y h)
  by_gt Equal h = sym (same x y h).1
  by_gt Greater h = sym (less y x h)

  not_gt : (o : Ordering) → is_le o ≡ not (is_gt o)
  not_gt Less = refl
  not_gt Equal = refl
  not_gt Greater = refl

  not_lt : (o : Ordering) → is_ge o ≡ not (is_lt o)
  not_lt Less = refl
  not_lt Equal = refl
  not_lt Greater = refl

  neither : (o : Ordering) → is_eq o ≡ (not (is_lt o) && not (is_gt o))
  neither Less = refl
  neither Equal = refl
  neither Greater = refl

  pub by_le : (o : Ordering) → Compares x y o → is_le o ≡ not (is_less y x)
  by_le o h = not_gt o ∙ ap not (by_gt o h)

  pub by_ge : (o : Ordering) → Compares x y o → is_ge o ≡ not (is_less x y)
  by_ge o h = not_lt o ∙ ap not (by_lt o h)

  pub by_eq : (o : Ordering) → Compares x y o → is_eq o ≡ (not (is_less x y) && not (is_less y x))
  by_eq o h = neither o ∙ ap₂ (λ a b. not a && not b) (by_lt o h) (by_gt o h)
