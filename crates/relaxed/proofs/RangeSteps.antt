-- Taking a range term by term: what is left of the terms gives the whole.
use Rattle.std.proofs.Common.{◌≡◌, ℕ, ◌+◌, true, false, List, [], ◌∷◌, ◌++◌, ◌≤◌, length, drop, refl, sym, ap, subst, ◌∙◌, inl, inr, Option, Some, None, Result, Ok, Err}
use Rattle.std.specs.Prelude.{slice_get, is_some}
use Rattle.rational.specs.Fraction.{Fraction, ◌+ℚ◌, ◌*ℚ◌}
use Rattle.rational.specs.Linear.{Terms}
use Rattle.frac128.specs.Operations.{Answers as AnswersOperation}
use Rattle.frac128.specs.declared.operations.Op.TheVariants.{Add, Mul}
use Rattle.frac128.specs.declared.operations.Wide.{Wide}
use Rattle.relaxed.specs.declared.interval.End.{End}
use Rattle.relaxed.specs.declared.interval.End.TheVariants.{At, Infinite}
use Rattle.relaxed.specs.declared.interval.Interval.{Interval}
use Rattle.relaxed.specs.declared.range.Side.{Side}
use Rattle.relaxed.specs.Range.{end_for, with_pick, picks, end_of_picks, sum_operations, operations_of_picks}
use Rattle.relaxed.specs.Named.{FitsIn}
use Rattle.relaxed.proofs.Dropping.{drop_next, drop_none}
use Rattle.relaxed.specs.inside.Ranging.{AllFit, IsFirstPassing, Answers, product_operations, AnswersPicks}

-- ---- answers of lists of operations in a row

pub fit_then : (xs ys : List Wide) → AllFit xs → AllFit ys → AllFit (xs ++ ys)
fit_then [] ys h j = j
fit_then (x ∷ xs) ys h j = (h.0, fit_then xs ys h.1 j)

pub passing_left : (xs ys : List Wide) (w : Wide) → IsFirstPassing xs w → IsFirstPassing (xs ++ ys) w
passing_left [] ys w h = absurd h
passing_left (x ∷ xs) ys w (inl h) = inl h
passing_left (x ∷ xs) ys w (inr h) = inr (h.0, passing_left xs ys w h.1)

pub passing_right : (xs ys : List Wide) (w : Wide) → AllFit xs → IsFirstPassing ys w → IsFirstPassing (xs ++ ys) w
passing_right [] ys w h j = j
passing_right (x ∷ xs) ys w h j = inr (h.0, passing_right xs ys w h.1 j)

pub answers_then : {X : Type 0} (xs ys : List Wide) (v : X) (r : Result X Wide) → AllFit xs → Answers ys v r → Answers (xs ++ ys) v r
answers_then xs ys v (Ok r) h j = (fit_then xs ys h j.0, j.1)
answers_then xs ys v (Err w) h j = passing_right xs ys w h j

-- ---- terms

module _ (side : Side) (at : ℕ → Interval) where
  pub picks-next : (ts : Terms) (i : ℕ) (t : ℕ × Fraction) → slice_get ts i ≡ Some t
      → picks side at (drop i ts) ≡ with_pick t.1 (end_for side t.1 (at t.0)) (picks side at (drop (i + 1) ts))
  picks-next ts i t e = ap (picks side at) (drop_next ts i t e)

  some-with_pick : (c e : Fraction) (o : Option (List (Fraction × Fraction))) → is_some (with_pick c (At e) o) ≡ is_some o
  some-with_pick c e None = refl
  some-with_pick c e (Some ps) = refl

  -- a term with a finite end decides nothing, one with an infinite end all
  pub some-next : (ts : Terms) (i : ℕ) (t : ℕ × Fraction) (e : Fraction) → slice_get ts i ≡ Some t → At e ≡ end_for side t.1 (at t.0)
      → is_some (picks side at (drop (i + 1) ts)) ≡ is_some (picks side at (drop i ts))
  some-next ts i t e s f =
      sym (some-with_pick t.1 e (picks side at (drop (i + 1) ts))) ∙ ap (λ (w : End). is_some (with_pick t.1 w (picks side at (drop (i + 1) ts)))) f
      ∙ sym (ap is_some (picks-next ts i t s))

  pub none-at : (ts : Terms) (i : ℕ) (t : ℕ × Fraction) → slice_get ts i ≡ Some t → Infinite ≡ end_for side t.1 (at t.0) → picks side at (drop i ts) ≡ None
  none-at ts i t s f = picks-next ts i t s ∙ sym (ap (λ (w : End). with_pick t.1 w (picks side at (drop (i + 1) ts))) f)

  answers_at : (sum : Fraction) (o u : Option (List (Fraction × Fraction))) (r : Result End Wide) → o ≡ u
      → Answers (operations_of_picks sum u) (end_of_picks sum u) r → Answers (operations_of_picks sum o) (end_of_picks sum o) r
  answers_at sum o u r e h = subst (λ (p : Option (List (Fraction × Fraction))). Answers (operations_of_picks sum p) (end_of_picks sum p) r) (sym e) h

  -- one product more
  pub sum-next : (ts : Terms) (i : ℕ) (t : ℕ × Fraction) (e sum new : Fraction) → slice_get ts i ≡ Some t → At e ≡ end_for side t.1 (at t.0)
      → is_some (picks side at (drop (i + 1) ts)) ≡ true → AllFit (product_operations sum t.1 e) → new ≡ sum +ℚ t.1 *ℚ e
      → (r : Result End Wide) → AnswersPicks side at new (drop (i + 1) ts) r → AnswersPicks side at sum (drop i ts) r
  sum-next ts i t e sum new s f bounded fit same r h =
      answers_at sum _ _ r (picks-next ts i t s ∙ sym (ap (λ (w : End). with_pick t.1 w (picks side at (drop (i + 1) ts))) f))
      (by_picks (picks side at (drop (i + 1) ts)) bounded (subst (λ (w : Fraction). AnswersPicks side at w (drop (i + 1) ts) r) same h))
    where
      by_picks : (o : Option (List (Fraction × Fraction))) → is_some o ≡ true
          → Answers (operations_of_picks (sum +ℚ t.1 *ℚ e) o) (end_of_picks (sum +ℚ t.1 *ℚ e) o) r
          → Answers (operations_of_picks sum (with_pick t.1 (At e) o)) (end_of_picks sum (with_pick t.1 (At e) o)) r
      by_picks None b h = absurd (cc)
      by_picks (Some ps) b h = answers_then (product_operations sum t.1 e) (sum_operations (sum +ℚ t.1 *ℚ e) ps) _ r fit h

  pub sum-fails : (ts : Terms) (i : ℕ) (t : ℕ × Fraction) (e sum : Fraction) (w : Wide) → slice_get ts i ≡ Some t → At e ≡ end_for side t.1 (at t.0)
      → is_some (picks side at (drop (i + 1) ts)) ≡ true → IsFirstPassing (product_operations sum t.1 e) w → AnswersPicks side at sum (drop i ts) (Err w)
  sum-fails ts i t e sum w s f bounded h =
      answers_at sum _ _ (Err w) (picks-next ts i t s ∙ sym (ap (λ (w : End). with_pick t.1 w (picks side at (drop (i + 1) ts))) f))
      (by_picks (picks side at (drop (i + 1) ts)) bounded)
    where
      by_picks : (o : Option (List (Fraction × Fraction))) → is_some o ≡ true
          → Answers (operations_of_picks sum (with_pick t.1 (At e) o)) (end_of_picks sum (with_pick t.1 (At e) o)) (Err w)
      by_picks None b = absurd (cc)
      by_picks (Some ps) b = passing_left (product_operations sum t.1 e) (sum_operations (sum +ℚ t.1 *ℚ e) ps) w h

pub answers-unbounded : (sum : Fraction) (o : Option (List (Fraction × Fraction))) → is_some o ≡ false → Answers (operations_of_picks sum o) (end_of_picks sum o) (Ok Infinite)
answers-unbounded sum None e = (tt, refl)
answers-unbounded sum (Some ps) e = absurd (cc)

pub sum-ends : (side : Side) (at : ℕ → Interval) (ts : Terms) (i : ℕ) (sum : Fraction) → length ts ≤ i → AnswersPicks side at sum (drop i ts) (Ok (At sum))
sum-ends side at ts i sum h = subst (λ (us : Terms). AnswersPicks side at sum us (Ok (At sum))) (sym (drop_none ts i h)) (tt, refl)

pub product-answers : (sum c e : Fraction) (r : Result Fraction Wide) → FitsIn (record { op = Mul; x = c; y = e }) → AnswersOperation Add sum (c *ℚ e) r
    → Answers (product_operations sum c e) (sum +ℚ c *ℚ e) r
product-answers sum c e (Ok r) m a = ((m, (a.0, tt)), a.1)
product-answers sum c e (Err w) m a = inr (m, inl (sym a.1, a.0))
