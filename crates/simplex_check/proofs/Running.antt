-- A sum of products, as far as it has come.
use Rattle.std.proofs.Common.{◌≡◌, ◌≢◌, ◌⊎◌, inl, inr, ℕ, suc, ◌<◌, ◌+◌, add-one, Result, Ok, Err, [], ◌∷◌, refl, sym, ap, subst, ◌∙◌, arith}
use Rattle.std.proofs.lemmas.Bool.{cases_eq}
use lib.IntN.{pos}
use Rattle.algebra.proofs.Solve.{v, k, ◌⊕◌, ◌⊗◌, inv, solve_from, eq, done}
use Rattle.rational.specs.Fraction.{Fraction, whole, ◌+ℚ◌, ◌*ℚ◌}
use Rattle.rational.proofs.FieldLaws.{fraction-ring}
use Rattle.frac128.specs.declared.operations.Op.TheVariants.{Mul, Add}
use Rattle.frac128.specs.declared.operations.Wide.{Wide}
use Rattle.tableau.specs.FiniteSums.{sum_below}
use Rattle.tableau.specs.Named.{FitsAt}
use Rattle.simplex_check.specs.Value.{ValueStep, Product, Sum, operation, IsMade, SumFits, SumPasses, ProductAnswers}

abbrev pub IsRunning : (ℕ → Fraction) → (ℕ → Fraction) → ℕ → Fraction → Type 0
IsRunning c f n sum = (sum ≡ sum_below n (λ j. c j *ℚ f j)) × SumFits c f n

pub running_none : (c f : ℕ → Fraction) (sum : Fraction) → sum ≡ whole (pos 0) → IsRunning c f 0 sum
running_none c f sum e = (e, none)
  where
    none : (s : ValueStep) → IsMade c 0 s → FitsAt (operation c f s)
    none (Product j) m = absurd (omega (arith, m.0))
    none (Sum j) m = absurd (omega (arith, m.0))

-- without a product where the cell is 0
pub stays : (sum c x : Fraction) → c ≡ whole (pos 0) → sum ≡ sum +ℚ c *ℚ x
stays sum c x z = solve_from fraction-ring (v 0) (v 0 ⊕ v 1 ⊗ v 2) (sum ∷ c ∷ x ∷ []) (eq (inv (v 2)) (v 1) (k (pos 0)) z done) refl

module _ (c f : ℕ → Fraction) (n : ℕ) (sum : Fraction) (before : IsRunning c f n sum) (b x : Fraction) (b_is : b ≡ c n) (x_is : x ≡ f n) where
  same : (a : Result Fraction Wide) → ProductAnswers sum b x a → ProductAnswers (sum_below n (λ j. c j *ℚ f j)) (c n) (f n) a
  same a h =
      subst (λ (u : Fraction). ProductAnswers u (c n) (f n) a) before.0
      (subst (λ (u : Fraction). ProductAnswers sum u (f n) a) b_is (subst (λ (u : Fraction). ProductAnswers sum b u a) x_is h))

  pub running_more : (y : Fraction) → ProductAnswers sum b x (Ok y) → IsRunning c f (n + 1) y
  running_more y h = let g = same (Ok y) h in subst (λ (m : ℕ). IsRunning c f m y) (sym (add-one n)) (g.1, fits g.0)
    where
      fits : (c n ≢ whole (pos 0) → FitsAt (record { op = Mul; x = c n; y = f n }) × FitsAt (record { op = Add; x = sum_below n (λ j. c j *ℚ f j); y = c n *ℚ f n })) → (s : ValueStep) → IsMade c (suc n) s → FitsAt (operation c f s)
      fits g (Product j) m = by_place (cases_eq j n)
        where
          by_place : (j ≡ n) ⊎ (j ≡ n → ⊥) → FitsAt (operation c f (Product j))
          by_place (inl e) = subst (λ (i : ℕ). FitsAt (operation c f (Product i))) (sym e) (g (λ z. m.1 (ap c e ∙ z))).0
          by_place (inr d) = before.1 (Product j) (omega (arith, m.0), m.1)
      fits g (Sum j) m = by_place (cases_eq j n)
        where
          by_place : (j ≡ n) ⊎ (j ≡ n → ⊥) → FitsAt (operation c f (Sum j))
          by_place (inl e) = subst (λ (i : ℕ). FitsAt (operation c f (Sum i))) (sym e) (g (λ z. m.1 (ap c e ∙ z))).1
          by_place (inr d) = before.1 (Sum j) (omega (arith, m.0), m.1)

  pub running_wide : (m : ℕ) → n < m → (w : Wide) → ProductAnswers sum b x (Err w) → SumPasses c f m w
  running_wide m l w h = by_step (same (Err w) h)
    where
      by_step : ProductAnswers (sum_below n (λ j. c j *ℚ f j)) (c n) (f n) (Err w) → SumPasses c f m w
      by_step (z, inl e, p) = (Product n, (l, z), e, p)
      by_step (z, inr e, p) = (Sum n, (l, z), e, p)
