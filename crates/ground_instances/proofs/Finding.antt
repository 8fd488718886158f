-- Steps of the search, by the lists that are still to come.
use Rattle.std.proofs.Common.{◌≡◌, ℕ, zero, suc, ◌+◌, ◌-◌, ◌<◌, ◌≤◌, Bool, true, false, cond, List, [], ◌∷◌, ◌++◌, length, if◌then◌else◌, refl, sym, ap, ◌∙◌, arith}
use Rattle.std.specs.List.{flat_map}
use Rattle.ground_instances.specs.ArgumentLists.{count_from}
use Rattle.ground_instances.specs.inside.Search.{lists_from, lists_after, NoneOpen}

chosen_false : {A : Type 0} (b : Bool) (x y : A) → b ≡ false → (if b then x else y) ≡ y
chosen_false true x y e = cc
chosen_false false x y e = refl

module _ (n : ℕ) (allowed : List ℕ → Bool) where
  abbrev tried : ℕ → List ℕ → ℕ → List (List ℕ)
  tried k args o = if allowed (args ++ o ∷ []) then lists_from n allowed k (args ++ o ∷ []) 0 else []

  abbrev from_numbers : ℕ → List ℕ → List ℕ → List (List ℕ)
  from_numbers k args numbers = flat_map (tried k args) numbers

  from_is : (k : ℕ) (args : List ℕ) (low : ℕ) → lists_from n allowed (suc k) args low ≡ from_numbers k args (count_from low (n - low))
  unfolding lists_from
  from_is k args low = refl

  pub one_left : (args : List ℕ) (low : ℕ) → lists_from n allowed 0 args low ≡ args ∷ []
  unfolding lists_from
  one_left args low = refl

  -- an object first, and then those above it
  pub from_next : (k : ℕ) (args : List ℕ) (low : ℕ) → low < n → lists_from n allowed (suc k) args low ≡ tried k args low ++ lists_from n allowed (suc k) args (low + 1)
  from_next k args low within =
      let more : n - low ≡ suc (n - (low + 1)) = omega arith in
      from_is k args low ∙ ap (λ m. from_numbers k args (count_from low m)) more ∙ ap (λ l. tried k args low ++ l) (sym (from_is k args (low + 1)))

  -- none above all objects
  pub from_end : (k : ℕ) (args : List ℕ) (low : ℕ) → n ≤ low → lists_from n allowed (suc k) args low ≡ []
  from_end k args low past =
      let none : n - low ≡ zero = omega arith in
      from_is k args low ∙ ap (λ m. from_numbers k args (count_from low m)) none

  from_shut : (k : ℕ) (args : List ℕ) (low : ℕ) → low < n → allowed (args ++ low ∷ []) ≡ false → lists_from n allowed (suc k) args low ≡ lists_from n allowed (suc k) args (low + 1)
  from_shut k args low within shut =
      from_next k args low within ∙ ap (λ l. l ++ lists_from n allowed (suc k) args (low + 1)) (chosen_false (allowed (args ++ low ∷ [])) (lists_from n allowed k (args ++ low ∷ []) 0) [] shut)

  skipped_by : (k : ℕ) (args : List ℕ) (m low high : ℕ) → low + m ≡ high → high ≤ n → NoneOpen n allowed args low high → lists_from n allowed (suc k) args low ≡ lists_from n allowed (suc k) args high
  skipped_by k args zero low high e within none = ap (lists_from n allowed (suc k) args) (omega (arith, e))
  skipped_by k args (suc m) low high e within none =
      from_shut k args low (omega (arith, e)) (none.none low (omega arith) (omega (arith, e)))
      ∙ skipped_by k args m (low + 1) high (omega (arith, e)) within (record { none = λ o a b. none.none o (omega arith) b })

  -- objects that cannot follow are skipped
  pub skipped : (k : ℕ) (args : List ℕ) (low high : ℕ) → low ≤ high → high ≤ n → NoneOpen n allowed args low high → lists_from n allowed (suc k) args low ≡ lists_from n allowed (suc k) args high
  skipped k args low high below within none = skipped_by k args (high - low) low high (omega arith) within none

  -- none of the objects that are left can follow
  pub none_left : (k : ℕ) (args : List ℕ) (low : ℕ) → NoneOpen n allowed args low n → lists_from n allowed (suc k) args low ≡ []
  none_left k args low none = by_gap (n - low) refl
    where
      by_gap : (m : ℕ) → n - low ≡ m → lists_from n allowed (suc k) args low ≡ []
      by_gap zero e = from_end k args low (omega (arith, e))
      by_gap (suc m) e = skipped k args low n (omega (arith, e)) (omega arith) none ∙ from_end k args n (omega arith)

  -- an object that cannot follow, or with which nothing is found, is passed
  pub passed_shut : (k : ℕ) (args : List ℕ) (o : ℕ) → o < n → allowed (args ++ o ∷ []) ≡ false → lists_from n allowed (suc k) args o ≡ lists_from n allowed (suc k) args (o + 1)
  passed_shut = from_shut

  pub passed_empty : (k : ℕ) (args : List ℕ) (o : ℕ) → o < n → allowed (args ++ o ∷ []) ≡ true → lists_from n allowed k (args ++ o ∷ []) 0 ≡ []
      → lists_from n allowed (suc k) args o ≡ lists_from n allowed (suc k) args (o + 1)
  passed_empty k args o within opens empty =
      from_next k args o within ∙ ap (λ l. l ++ lists_from n allowed (suc k) args (o + 1)) (ap (λ b. cond b (lists_from n allowed k (args ++ o ∷ []) 0) []) opens ∙ empty)

  pub after_is : (args : List ℕ) (o : ℕ) (more : List ℕ) → lists_after n allowed args (o ∷ more) ≡ lists_after n allowed (args ++ o ∷ []) more ++ lists_from n allowed (suc (length more)) args (o + 1)
  unfolding lists_after
  after_is args o more = refl

  pub after_none : (args : List ℕ) → lists_after n allowed args [] ≡ []
  unfolding lists_after
  after_none args = refl

  -- what is found with an object is the next list
  pub found_with : (k : ℕ) (args : List ℕ) (o : ℕ) (new more : List ℕ) → o < n → allowed (args ++ o ∷ []) ≡ true → k ≡ length more
      → lists_from n allowed k (args ++ o ∷ []) 0 ≡ new ∷ lists_after n allowed (args ++ o ∷ []) more
      → lists_from n allowed (suc k) args o ≡ new ∷ lists_after n allowed args (o ∷ more)
  found_with k args o new more within opens len found =
      from_next k args o within ∙ ap (λ l. l ++ lists_from n allowed (suc k) args (o + 1)) (ap (λ b. cond b (lists_from n allowed k (args ++ o ∷ []) 0) []) opens ∙ found)
      ∙ ap (λ m. new ∷ (lists_after n allowed (args ++ o ∷ []) more ++ lists_from n allowed (suc m) args (o + 1))) len ∙ ap (λ l. new ∷ l) (sym (after_is args o more))
