-- Lists of objects by number: what is put in them stays, and nothing else is there.
use Rattle.std.proofs.Common.{◌≡◌, ℕ, zero, suc, ◌<◌, Bool, true, false, ◌||◌, ◌==◌, List, [], ◌∷◌, ◌++◌, length, get_or, set, Some, None, if◌then◌else◌, ◌⊎◌, inl, inr, ⊎_elim, refl, sym, ap, subst, ◌∙◌, arith}
use Rattle.std.specs.Prelude.{slice_index_or}
use Rattle.std.proofs.lemmas.Bool.{cases_eq}
use Rattle.std.proofs.lemmas.Bool.Decides.{nat_tests}
use Rattle.std.proofs.lemmas.List.{get_or-set_same, get_or-set_other}
use Rattle.std.proofs.lemmas.List.Folds.{list_any-append}
use Rattle.ground_numbers.specs.declared.named.Named.{Named}
use Rattle.ground_numbers.specs.Numbers.{same, is_listed, number_in, found_in, with_seen}
use Rattle.ground_numbers.specs.inside.Same.{same_sound}
use Rattle.ground_instances.specs.Index.{is_among}
use Rattle.ground_instances.specs.inside.Places.{is_put, PutsAt}

-- ---- numbers and lists that stay
longer : (s b c : Bool) (m p n : ℕ) → ((k : ℕ) → (if b then Some m else None) ≡ Some k → (if c then Some p else None) ≡ Some k)
    → (if s || b then Some (if s then zero else suc m) else None) ≡ Some n → (if s || c then Some (if s then zero else suc p) else None) ≡ Some n
longer true b c m p n h e = e
longer false true c m p n h e =
    let there : (if c then Some p else None) ≡ Some m = h m refl in
    by c there
  where
    by : (d : Bool) → (if d then Some p else None) ≡ Some m → (if d then Some (suc p) else None) ≡ Some n
    by true f = let same_number : p ≡ m = cc in ap (λ k. Some (suc k)) same_number ∙ e
    by false f = cc
longer false false c m p n h e = cc

found-append : (xs ys : List Named) (k : Named) (n : ℕ) → found_in same xs k ≡ Some n → found_in same (xs ++ ys) k ≡ Some n
found-append [] ys k n e = cc
found-append (x ∷ xs) ys k n e =
    longer (same x k) (is_listed same xs k) (is_listed same (xs ++ ys) k) (number_in same xs k) (number_in same (xs ++ ys) k) n (λ m f. found-append xs ys k m f) e

-- a thing that is numbered keeps its number
pub found-with_seen : (xs : List Named) (seen k : Named) (n : ℕ) → found_in same xs k ≡ Some n → found_in same (with_seen same xs seen) k ≡ Some n
found-with_seen xs seen k n e = by (is_listed same xs seen)
  where
    by : (b : Bool) → found_in same (if b then xs else xs ++ seen ∷ []) k ≡ Some n
    by true = e
    by false = found-append xs (seen ∷ []) k n e

-- an empty list more changes nothing
pub nothing_more : (lists : List (List ℕ)) (n : ℕ) → slice_index_or (lists ++ [] ∷ []) n [] ≡ slice_index_or lists n []
nothing_more [] zero = refl
nothing_more [] (suc zero) = refl
nothing_more [] (suc (suc n)) = refl
nothing_more (l ∷ lists) zero = refl
nothing_more (l ∷ lists) (suc n) = nothing_more lists n

among_last : (objects : List ℕ) (o : ℕ) → is_among (objects ++ o ∷ []) o ≡ true
among_last objects o = list_any-append (λ x. x == o) objects (o ∷ []) ∙ last (is_among objects o)
  where
    itself : (o == o) ≡ true
    itself = grind (arith, nat_tests)

    last : (b : Bool) → (b || ((o == o) || false)) ≡ true
    last true = refl
    last false = ap (λ t. t || false) itself

among_longer : (objects : List ℕ) (p o : ℕ) → is_among objects o ≡ true → is_among (objects ++ p ∷ []) o ≡ true
among_longer objects p o e = list_any-append (λ x. x == o) objects (p ∷ []) ∙ ap (λ b. b || is_among (p ∷ []) o) e

among_more : (objects : List ℕ) (p o : ℕ) → is_among (objects ++ p ∷ []) o ≡ true → (is_among objects o ≡ true) ⊎ (o ≡ p)
among_more objects p o e = by (is_among objects o) refl
  where
    equal : (p == o) ≡ true → o ≡ p
    equal f = grind (arith, nat_tests)

    alone : (b : Bool) → (b || false) ≡ true → b ≡ true
    alone true f = refl
    alone false f = cc

    by : (b : Bool) → is_among objects o ≡ b → (is_among objects o ≡ true) ⊎ (o ≡ p)
    by true f = inl f
    by false f = inr (equal (alone (p == o) (ap (λ b. b || is_among (p ∷ []) o) (sym f) ∙ sym (list_any-append (λ x. x == o) objects (p ∷ [])) ∙ e)))

-- ---- one number, one thing
-- what has the number of another is that one
pub one_thing : (xs : List Named) (j k : Named) (n : ℕ) → found_in same xs j ≡ Some n → found_in same xs k ≡ Some n → j ≡ k
one_thing [] j k n e f = cc
one_thing (x ∷ xs) j k n e f = by (same x j) (same x k) refl refl e f (λ m. one_thing xs j k m)
  where
    first_number : (b : Bool) (m : ℕ) → (if b then Some (suc m) else None) ≡ Some zero → ⊥
    first_number true m h = cc
    first_number false m h = cc

    before : (b : Bool) (m p : ℕ) → (if b then Some (suc m) else None) ≡ Some (suc p) → (if b then Some m else None) ≡ Some p
    before true m p h = let is : m ≡ p = cc in ap Some is
    before false m p h = cc

    zero_is : n ≡ n → Some zero ≡ Some n → n ≡ zero
    zero_is h g = cc

    by : (b c : Bool) → same x j ≡ b → same x k ≡ c → (if b || is_listed same xs j then Some (if b then zero else suc (number_in same xs j)) else None) ≡ Some n
        → (if c || is_listed same xs k then Some (if c then zero else suc (number_in same xs k)) else None) ≡ Some n
        → ((m : ℕ) → found_in same xs j ≡ Some m → found_in same xs k ≡ Some m → j ≡ k) → j ≡ k
    by true true b c g h rest = sym (same_sound x j b) ∙ same_sound x k c
    by true false b c g h rest =
        let none : n ≡ zero = zero_is refl g in
        absurd (first_number (is_listed same xs k) (number_in same xs k) (subst (λ m. (if is_listed same xs k then Some (suc (number_in same xs k)) else None) ≡ Some m) none h))
    by false true b c g h rest =
        let none : n ≡ zero = zero_is refl h in
        absurd (first_number (is_listed same xs j) (number_in same xs j) (subst (λ m. (if is_listed same xs j then Some (suc (number_in same xs j)) else None) ≡ Some m) none g))
    by false false b c g h rest = numbered n g h
      where
        numbered : (m : ℕ) → (if is_listed same xs j then Some (suc (number_in same xs j)) else None) ≡ Some m → (if is_listed same xs k then Some (suc (number_in same xs k)) else None) ≡ Some m → j ≡ k
        numbered zero p q = absurd (first_number (is_listed same xs j) (number_in same xs j) p)
        numbered (suc m) p q = rest m (before (is_listed same xs j) (number_in same xs j) m p) (before (is_listed same xs k) (number_in same xs k) m q)

-- an object more in one list
pub PutsAt-set : (old lists : List (List ℕ)) (number object : ℕ) → ((n : ℕ) → slice_index_or lists n [] ≡ slice_index_or old n []) → number < length lists
    → (own new : List ℕ) → own ≡ get_or lists number own → new ≡ own ++ object ∷ [] → PutsAt old (set lists number new) number object
PutsAt-set old lists number object alike within own new read added = record {
  kept = λ n o e. by n o e;
  put = ap (λ l. is_among l object) (get_or-set_same lists number new [] within ∙ added) ∙ among_last own object;
  only = λ n o e. from n o e;
}
  where
    own_is : own ≡ slice_index_or lists number []
    own_is = read ∙ default lists number within
      where
        default : (xs : List (List ℕ)) (i : ℕ) → i < length xs → get_or xs i own ≡ get_or xs i []
        default [] i h = absurd (omega arith)
        default (x ∷ xs) zero h = refl
        default (x ∷ xs) (suc i) h = default xs i (omega (arith, h))

    by : (n o : ℕ) → is_put old n o ≡ true → is_put (set lists number new) n o ≡ true
    by n o e =
        ⊎_elim
        (λ h. subst (λ m. is_put (set lists number new) m o ≡ true) (sym h)
        (ap (λ l. is_among l o) (get_or-set_same lists number new [] within ∙ added)
        ∙ among_longer own object o (ap (λ l. is_among l o) (own_is ∙ alike number ∙ ap (λ m. slice_index_or old m []) (sym h)) ∙ e)))
        (λ h. ap (λ l. is_among l o) (get_or-set_other lists number n new [] h ∙ alike n) ∙ e)
        (cases_eq n number)

    from : (n o : ℕ) → is_put (set lists number new) n o ≡ true → (is_put old n o ≡ true) ⊎ ((n ≡ number) × (o ≡ object))
    from n o e =
        ⊎_elim
        (λ h.
        let here : is_among (own ++ object ∷ []) o ≡ true = ap (λ l. is_among l o) (sym (get_or-set_same lists number new [] within ∙ added)) ∙ ap (λ m. is_put (set lists number new) m o) (sym h) ∙ e in
        ⊎_elim
        (λ was. inl (ap (λ l. is_among l o) (ap (λ m. slice_index_or old m []) h ∙ sym (alike number) ∙ sym own_is) ∙ was))
        (λ is. inr (h, is))
        (among_more own object o here))
        (λ h. inl (ap (λ l. is_among l o) (sym (alike n)) ∙ ap (λ l. is_among l o) (sym (get_or-set_other lists number n new [] h)) ∙ e))
        (cases_eq n number)
