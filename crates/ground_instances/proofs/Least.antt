-- The first object from one on, of objects that rise.
use Rattle.std.proofs.Common.{◌≡◌, ℕ, suc, ◌<◌, ◌≤◌, Bool, true, false, ◌||◌, ◌==◌, List, [], ◌∷◌, length, get_or, Option, Some, None, slice_get, MatchOption, refl, sym, ap, subst, ◌∙◌, arith}
use Rattle.std.proofs.lemmas.Bool.Decides.{nat_tests}
use Rattle.std.proofs.lemmas.Option.{slice_get_within, get_or_from_slice_get, slice_get-get_or}
use Rattle.ground_instances.specs.Index.{is_among, IsRising}
use Rattle.ground_instances.specs.inside.Places.{IsFirstFrom, AllBelow}

-- what holds of each by its place holds of what is among them
each_among : (P : ℕ → Type 0) (xs : List ℕ) → ((k : ℕ) → k < length xs → P (get_or xs k 0)) → (o : ℕ) → is_among xs o ≡ true → P o
each_among P [] h o e = cc
each_among P (x ∷ xs) h o e = by (x == o) refl (each_among P xs (λ k within. h (suc k) (omega (arith, within))) o)
  where
    equal : (x == o) ≡ true → x ≡ o
    equal f = grind (arith, nat_tests)

    by : (b : Bool) → (x == o) ≡ b → (is_among xs o ≡ true → P o) → P o
    by true f rest = subst P (equal f) (h 0 (omega arith))
    by false f rest = rest (ap (λ b. b || is_among xs o) (sym f) ∙ e)

-- none is as great as what doesn't fit 32 bits
pub all_small : (xs : List ℕ) (low most : ℕ) → ((k : ℕ) → get_or xs k 0 < suc most) → most < low → AllBelow xs low
all_small xs low most fits past = λ o e. each_among (λ (x : ℕ). x < low) xs (λ k within. below k (fits k)) o e
  where
    below : (k : ℕ) → get_or xs k 0 < suc most → get_or xs k 0 < low
    below k h = omega arith

-- the place of a search that finds nothing is that of the first greater one
pub first_at : (xs : List ℕ) (low place : ℕ) → IsRising xs → ((k : ℕ) → k < place → get_or xs k 0 < low) → ((k : ℕ) → place ≤ k → k < length xs → low < get_or xs k 0) → (result : Option ℕ) → result ≡ slice_get xs place
    → MatchOption result (AllBelow xs low) (IsFirstFrom xs low)
first_at xs low place rising before behind None is = λ o e. each_among (λ (x : ℕ). x < low) xs (λ k within. before k (smaller k within)) o e
  where
    past : length xs ≤ place
    past = by (λ h. absurd (there h))
      where
        there : place < length xs → ⊥
        there h = let some : None ≡ Some (get_or xs place 0) = is ∙ slice_get-get_or xs place 0 h in cc

        by : ((place < length xs) → length xs ≤ place) → length xs ≤ place
        by h = grind arith

    smaller : (k : ℕ) → k < length xs → k < place
    smaller k h = omega (arith, past)
first_at xs low place rising before behind (Some o) is = record {
  above = above;
  least = each_among (λ (x : ℕ). low ≤ x → o ≤ x) xs least;
}
  where
    here : place < length xs
    here = slice_get_within xs place o (sym is)

    own : get_or xs place 0 ≡ o
    own = get_or_from_slice_get xs place o 0 (sym is)

    above : low ≤ o
    above = let more : low < get_or xs place 0 = behind place (omega arith) here in omega (arith, own)

    least : (k : ℕ) → k < length xs → low ≤ get_or xs k 0 → o ≤ get_or xs k 0
    least k within far = later (not_before (before k))
      where
        not_before : (k < place → get_or xs k 0 < low) → place ≤ k
        not_before h = grind arith

        later : place ≤ k → o ≤ get_or xs k 0
        later h = let up : get_or xs place 0 ≤ get_or xs k 0 = rising.rises place k h within in omega (arith, own)
