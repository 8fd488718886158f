-- Lists of values, as far as they have come.
use Rattle.std.proofs.Common.{◌≡◌, ℕ, zero, suc, ◌+◌, ◌<◌, List, [], ◌∷◌, ◌++◌, length, refl, sym, ap, ◌∙◌, arith, below_more, length-append}
use Rattle.rational.specs.Fraction.{Fraction}
use Rattle.lin.specs.Linear.{point_of}
use Rattle.simplex_law.specs.Pairs.{at_small}
use Rattle.simplex_law.specs.declared.pair.Pair.{Pair}
use Rattle.simplex_judge.specs.Points.{AreValues}

at_front : (xs : List Fraction) (x : Fraction) (j : ℕ) → j < length xs → point_of (xs ++ x ∷ []) j ≡ point_of xs j
at_front [] x j lt = absurd (omega arith)
at_front (y ∷ ys) x zero lt = refl
at_front (y ∷ ys) x (suc j) lt = at_front ys x j (omega arith)

at_end : (xs : List Fraction) (x : Fraction) → point_of (xs ++ x ∷ []) (length xs) ≡ x
at_end [] x = refl
at_end (y ∷ ys) x = at_end ys x

pub values_none : (value : ℕ → Pair) (d : Fraction) (xs : List Fraction) → xs ≡ [] → AreValues value 0 d xs
values_none value d xs e = record { long = ap length e; each = λ i lt. absurd (omega arith) }

pub values_more : (value : ℕ → Pair) (i : ℕ) (d : Fraction) (xs xs' : List Fraction) (x : Fraction) → AreValues value i d xs → xs' ≡ xs ++ x ∷ [] → x ≡ at_small (value i) d → AreValues value (i + 1) d xs'
values_more value i d xs xs' x h e is = record {
  long = ap length e ∙ length-append xs (x ∷ []) ∙ ap (λ (n : ℕ). n + 1) h.long;
  each = below_more (λ (j : ℕ). point_of xs' j ≡ at_small (value j) d) i
      (λ j lt. ap (λ (ys : List Fraction). point_of ys j) e ∙ at_front xs x j (omega (arith, h.long)) ∙ h.each j lt)
      (ap (λ (ys : List Fraction). point_of ys i) e ∙ ap (point_of (xs ++ x ∷ [])) (sym h.long) ∙ at_end xs x ∙ is);
}
