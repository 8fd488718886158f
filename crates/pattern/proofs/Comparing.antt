-- The order of a value and 0.
use Rattle.std.proofs.Common.{◌≡◌, Bool, true, false, refl, sym, subst, is_le, is_lt, is_eq}
use Rattle.std.specs.Prelude.{IsTrue}
use Rattle.std.specs.declared.cmp.Ordering.{Ordering}
use Rattle.std.specs.declared.cmp.Ordering.TheVariants.{Less, Equal, Greater}
use lib.IntN.{pos}
use Rattle.rational.specs.Fraction.{Fraction, whole, ◌≤ℚ◌, ◌<ℚ◌}
use Rattle.rational.proofs.OrderLaws.{<ℚ-weaken, ≤ℚ-same, <ℚ-not-≥, <ℚ-apart}
use Rattle.frac128.specs.Order.{Compares}
use Rattle.lin.specs.declared.comparison.Cmp.{Cmp}
use Rattle.lin.specs.declared.comparison.Cmp.TheVariants.{Le, Lt, Eq}
use Rattle.task_core.specs.State.{ComparesToZero}

-- the test says whether it is so
abbrev Decides : Bool → Type 0 → Type 0
Decides b P = (IsTrue b → P) × (P → IsTrue b)

never : false ≡ true → ⊥
never e = cc

module _ (x y : Fraction) where
  at_most : (o : Ordering) → Compares x y o → Decides (is_le o) (x ≤ℚ y)
  at_most Less h = (λ _. <ℚ-weaken x y h, λ _. refl)
  at_most Equal h = (λ _. ≤ℚ-same x y h, λ _. refl)
  at_most Greater h = (λ t. absurd (never t), λ l. absurd (<ℚ-not-≥ y x h l))

  below : (o : Ordering) → Compares x y o → Decides (is_lt o) (x <ℚ y)
  below Less h = (λ _. h, λ _. refl)
  below Equal h = (λ t. absurd (never t), λ l. absurd (<ℚ-apart x y l h))
  below Greater h = (λ t. absurd (never t), λ l. absurd (<ℚ-not-≥ y x h (<ℚ-weaken x y l)))

  same : (o : Ordering) → Compares x y o → Decides (is_eq o) (x ≡ y)
  same Less h = (λ t. absurd (never t), λ e. absurd (<ℚ-apart x y h e))
  same Equal h = (λ _. h, λ _. refl)
  same Greater h = (λ t. absurd (never t), λ e. absurd (<ℚ-apart y x h (sym e)))

module _ (x z : Fraction) (cmp : Cmp) (o : Ordering) (b : Bool) (zero : z ≡ whole (pos 0)) (order : Compares x z o) where
  ordered : Compares x (whole (pos 0)) o
  ordered = subst (λ (y : Fraction). Compares x y o) zero order

  pub compares_le : cmp ≡ Le → b ≡ is_le o → Decides b (ComparesToZero cmp x)
  compares_le is test =
      subst (λ (c : Cmp). Decides b (ComparesToZero c x)) (sym is) (subst (λ (t : Bool). Decides t (ComparesToZero Le x)) (sym test) (at_most x (whole (pos 0)) o ordered))

  pub compares_lt : cmp ≡ Lt → b ≡ is_lt o → Decides b (ComparesToZero cmp x)
  compares_lt is test =
      subst (λ (c : Cmp). Decides b (ComparesToZero c x)) (sym is) (subst (λ (t : Bool). Decides t (ComparesToZero Lt x)) (sym test) (below x (whole (pos 0)) o ordered))

  pub compares_eq : cmp ≡ Eq → b ≡ is_eq o → Decides b (ComparesToZero cmp x)
  compares_eq is test =
      subst (λ (c : Cmp). Decides b (ComparesToZero c x)) (sym is) (subst (λ (t : Bool). Decides t (ComparesToZero Eq x)) (sym test) (same x (whole (pos 0)) o ordered))
