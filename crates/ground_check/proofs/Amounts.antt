-- Amounts that aren't 0, and numbers that don't stand in a list.
use Rattle.std.proofs.Common.{◌≡◌, ◌≢◌, ℕ, ◌+◌, ◌-◌, ◌<◌, ◌≤◌, Bool, true, false, List, [], ◌∷◌, ◌||◌, length, get_or, nat_eq, nat_lt, refl, sym, ap, subst, ◌∙◌, arith}
use Rattle.std.specs.List.{All, list_any}
use Rattle.std.proofs.lemmas.List.Elements.{All-weaker}
use Rattle.std.proofs.lemmas.List.Folds.{list_any_none}
use Rattle.std.proofs.lemmas.Bool.{ne_eqb, ltb-true, ltb-false}
use Rattle.std.proofs.lemmas.List.{get_or-map}
use lib.IntN.{pos}
use Rattle.rational.specs.Fraction.{Fraction, whole}
use Rattle.lin.specs.Normal.{is_zero}
use Rattle.task_core.specs.Step.{is_in}
use Rattle.task_core.specs.Task.{numbers}
use Rattle.ground_check.proofs.Parts.{all_numbers}

pub nonzero : (x : Fraction) → is_zero x ≡ false → x ≢ whole (pos 0)
nonzero x h e = let wrong : is_zero (whole (pos 0)) ≡ false = subst (λ (y : Fraction). is_zero y ≡ false) e h in absurd (cc)

pub not_in : (f : ℕ) (ns : List ℕ) → All (λ n. n ≢ f) ns → is_in f ns ≡ false
not_in f ns h = list_any_none _ ns (All-weaker (λ n. n ≢ f) _ (λ n e. ne_eqb n f e) ns h)

pub not_among : {X : Type 0} (f : ℕ) (ps : List (ℕ × X)) → All (λ p. p.0 ≢ f) ps → is_in f (numbers ps) ≡ false
not_among f ps h = not_in f (numbers ps) (all_numbers (λ n. n ≢ f) ps h)

pub in_numbers : {X : Type 0} (f : ℕ) (ps : List (ℕ × X)) → list_any (λ p. nat_eq p.0 f) ps ≡ is_in f (numbers ps)
in_numbers f [] = refl
in_numbers f (p ∷ ps) = ap (λ b. nat_eq p.0 f || b) (in_numbers f ps)

-- one number more, above the one before
pub rise_step : {X : Type 0} (ps : List (ℕ × X)) (i : ℕ) (x y : ℕ × X) → 1 ≤ i → i < length ps → (get_or ps (i - 1) x).0 < (get_or ps i y).0
    → ((k : ℕ) → k + 1 < i → get_or (numbers ps) k 0 < get_or (numbers ps) (k + 1) 0)
    → (k : ℕ) → k + 1 < i + 1 → get_or (numbers ps) k 0 < get_or (numbers ps) (k + 1) 0
rise_step ps i x y low high less so_far k bound = by_test (nat_lt (k + 1) i) refl
  where
    left : get_or (numbers ps) (i - 1) 0 ≡ (get_or ps (i - 1) x).0
    left = get_or-map (λ p. p.0) ps (i - 1) x 0 (omega arith)

    right : get_or (numbers ps) i 0 ≡ (get_or ps i y).0
    right = get_or-map (λ p. p.0) ps i y 0 high

    by_test : (b : Bool) → nat_lt (k + 1) i ≡ b → get_or (numbers ps) k 0 < get_or (numbers ps) (k + 1) 0
    by_test true e = so_far k (ltb-true (k + 1) i e)
    by_test false e =
        let place : i ≡ k + 1 = omega (arith, ltb-false (k + 1) i e, bound) in
        let earlier : k ≡ i - 1 = omega arith in
        let lower : get_or (numbers ps) k 0 ≡ (get_or ps (i - 1) x).0 = ap (λ n. get_or (numbers ps) n 0) earlier ∙ left in
        let upper : get_or (numbers ps) (k + 1) 0 ≡ (get_or ps i y).0 = ap (λ n. get_or (numbers ps) n 0) (sym place) ∙ right in
        omega arith
