-- Known values: one more, and how they move with a pivot.
use Rattle.std.proofs.Common.{◌≡◌, ◌≢◌, ◌⊎◌, inl, inr, ℕ, ◌<◌, ◌≤◌, ◌+◌, false, IsTrue, Option, Some, None, List, [], ◌∷◌, length, set, refl, sym, ap, subst, ◌∙◌, arith}
use Rattle.std.proofs.lemmas.Bool.{cases_eq}
use Rattle.std.proofs.lemmas.List.{get_or-set_same, get_or-set_other}
use lib.IntN.{pos}
use Rattle.algebra.proofs.Solve.{v, k, ◌⊕◌, ◌⊗◌, inv, solve_from, eq, done}
use Rattle.rational.specs.Fraction.{Fraction, whole, ◌+ℚ◌, ◌*ℚ◌}
use Rattle.rational.proofs.FieldLaws.{fraction-ring}
use Rattle.tableau.specs.Table.{Table, width, cell, is_basic, IsTidy}
use Rattle.simplex_law.specs.Pairs.{plus_multiple, minus}
use Rattle.simplex_law.specs.Config.{Limits, row_pair, value_of, IsNext}
use Rattle.simplex_law.specs.declared.pair.Pair.{Pair}
use Rattle.simplex_law.proofs.Fitting.{value-basic, value-other}
use Rattle.simplex_law.proofs.Keeping.{next_tidy}
use Rattle.simplex_law.proofs.Moving.{values_move}
use Rattle.simplex_check.specs.Known.{Says, known_at, IsKnown}
use Rattle.simplex_check.specs.inside.Moving.{MovesAt, Moves}

-- 0 times the way is no move
plus_none : (y d : Pair) (c : Fraction) → c ≡ whole (pos 0) → y ≡ plus_multiple y c d
plus_none y d c z =
    let part : (a b : Fraction) → a ≡ a +ℚ c *ℚ b = λ a b. solve_from fraction-ring (v 0) (v 0 ⊕ v 1 ⊗ v 2) (a ∷ c ∷ b ∷ []) (eq (inv (v 2)) (v 1) (k (pos 0)) z done) refl in
    let pair : Fraction → Fraction → Pair = λ a b. record { main = a; small = b } in
    ap (λ (a : Fraction). pair a y.small) (part y.main d.main) ∙ ap (λ (b : Fraction). pair (y.main +ℚ c *ℚ d.main) b) (part y.small d.small)

pub says_still : (x : Option Pair) (c : Fraction) → c ≡ whole (pos 0) → (y d : Pair) → Says x y → Says x (plus_multiple y c d)
says_still None c z y d h = tt
says_still (Some w) c z y d h = h ∙ plus_none y d c z

says_equal : (x : Option Pair) (y z : Pair) → y ≡ z → Says x y → Says x z
says_equal x y z e h = subst (Says x) e h

-- one more value is known
pub known_more : (t : Table) (place : ℕ → Pair) (known : List (Option Pair)) (r : ℕ) (x : Pair) → length known ≡ width t → r < width t → x ≡ row_pair t place r → IsKnown t place known → IsKnown t place (set known r (Some x))
known_more t place known r x long lr e h i li b = by_place (cases_eq i r)
  where
    by_place : (i ≡ r) ⊎ (i ≡ r → ⊥) → Says (known_at (set known r (Some x)) i) (row_pair t place i)
    by_place (inl s) =
        let P : ℕ → Type 0 = λ n. Says (known_at (set known r (Some x)) n) (row_pair t place n) in
        subst P (sym s) (subst (λ (o : Option Pair). Says o (row_pair t place r)) (sym (get_or-set_same known r (Some x) None (omega (arith, long)))) e)
    by_place (inr d) = subst (λ (o : Option Pair). Says o (row_pair t place i)) (sym (get_or-set_other known r i (Some x) None d)) (h i li b)

-- ---- moving them one after another
abbrev pub Untouched : ℕ → List (Option Pair) → List (Option Pair) → Type 0
Untouched i before known = (n : ℕ) → i ≤ n → known_at known n ≡ known_at before n

pub moves_more : (t : Table) (r : ℕ) (way : Option Pair) (i : ℕ) (before known : List (Option Pair)) (x y : Option Pair) → i < length known → x ≡ known_at known i → MovesAt t r way i x y
    → Moves t r way i before known → Untouched i before known → Moves t r way (i + 1) before (set known i y) × Untouched (i + 1) before (set known i y)
moves_more t r way i before known x y l e m h u = ((λ n ln. by_place n ln (cases_eq n i)), (λ n ln. get_or-set_other known i n y None (omega arith) ∙ u n (omega arith)))
  where
    by_place : (n : ℕ) → n < i + 1 → (n ≡ i) ⊎ (n ≡ i → ⊥) → MovesAt t r way n (known_at before n) (known_at (set known i y) n)
    by_place n ln (inl s) =
        let P : ℕ → Type 0 = λ j. MovesAt t r way j (known_at before j) (known_at (set known i y) j) in
        subst P (sym s) (subst (λ (o : Option Pair). MovesAt t r way i o (known_at (set known i y) i)) (e ∙ u i (omega arith)) (subst (λ (o : Option Pair). MovesAt t r way i x o) (sym (get_or-set_same known i y None l)) m))
    by_place n ln (inr d) = subst (λ (o : Option Pair). MovesAt t r way n (known_at before n) o) (sym (get_or-set_other known i n y None d)) (h n (omega arith))

-- ---- after a pivot
module _ (l : Limits) (t : Table) (q : ℕ → Pair) (r e : ℕ) (after : Table) (q' : ℕ → Pair) (tidy : IsTidy t) (x : IsNext l t q r e after q') where
  pub known_after : (known : List (Option Pair)) → length known ≡ width t → IsKnown t q known → (y : Pair) → y ≡ q e → (way : Option Pair) → Says way (minus (q' r) (row_pair t q r))
      → (moved : List (Option Pair)) → Moves after r way (width after) (set known e (Some y)) moved → IsKnown after q' moved
  known_after known long h y ye way w moved m i li b =
      let tidy' : IsTidy after = next_tidy l t q r e after q' tidy x in
      let lt : i < width t = subst (λ (n : ℕ). i < n) x.pivoted.same_width li in
      let at_r : value_of t q r ≡ row_pair t q r = value-basic t tidy q r x.leaves.basic in
      says_equal (known_at moved i) (plus_multiple (value_of t q i) (cell after i r) (minus (q' r) (value_of t q r))) (row_pair after q' i)
      (sym (values_move l t q r e after q' tidy x i lt b) ∙ value-basic after tidy' q' i b)
      (m i li b (value_of t q i) (minus (q' r) (value_of t q r)) (before lt (cases_eq i e)) (subst (λ (p : Pair). Says way (minus (q' r) p)) (sym at_r) w))
    where
      not_r : i ≢ r
      not_r s = let a : is_basic after i ≡ false = ap (is_basic after) s ∙ x.pivoted.leaves in let no_way : ⊥ = cc in no_way

      before : i < width t → (i ≡ e) ⊎ (i ≡ e → ⊥) → Says (known_at (set known e (Some y)) i) (value_of t q i)
      before lt (inl s) =
          let P : ℕ → Type 0 = λ n. Says (known_at (set known e (Some y)) n) (value_of t q n) in
          subst P (sym s) (subst (λ (o : Option Pair). Says o (value_of t q e)) (sym (get_or-set_same known e (Some y) None (omega (arith, long, x.enters.within)))) (ye ∙ sym (value-other t tidy q e x.enters.other)))
      before lt (inr d) =
          let b' : IsTrue (is_basic t i) = sym (x.pivoted.stays i not_r d) ∙ b in
          subst (λ (o : Option Pair). Says o (value_of t q i)) (sym (get_or-set_other known e i (Some y) None d)) (says_equal (known_at known i) (row_pair t q i) (value_of t q i) (sym (value-basic t tidy q i b')) (h i lt b'))
