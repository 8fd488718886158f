-- The lists after one, in the order of the search, are those above it.
use Rattle.std.proofs.Common.{◌≡◌, ℕ, zero, suc, ◌+◌, ◌-◌, ◌<◌, ◌≤◌, Bool, true, false, cond, ◌||◌, ◌&&◌, ◌==◌, nat_lt, List, [], ◌∷◌, ◌++◌, length, filter, if◌then◌else◌, refl, sym, ap, ◌∙◌, append_assoc, arith}
use Rattle.std.proofs.lemmas.Bool.Decides.{nat_tests}
use Rattle.std.proofs.lemmas.List.Elements.{filter-append}
use Rattle.std.proofs.lemmas.Grind.{flat_map-append}
use Rattle.std.specs.List.{flat_map}
use Rattle.ground_instances.specs.ArgumentLists.{count_from, is_above}
use Rattle.ground_instances.specs.inside.Search.{lists_from, lists_after}

append_nothing : {A : Type 0} (xs : List A) → xs ++ [] ≡ xs
append_nothing [] = refl
append_nothing (x ∷ xs) = ap (λ l. x ∷ l) (append_nothing xs)

itself_below : (x : ℕ) (b : Bool) → (nat_lt x x || (x == x && b)) ≡ b
itself_below x true = grind (arith, nat_tests)
itself_below x false = grind (arith, nat_tests)

less_above : (x y : ℕ) (b : Bool) → x < y → (nat_lt x y || (x == y && b)) ≡ true
less_above x y b h = grind (arith, nat_tests)

more_below : (x y : ℕ) (b : Bool) → y < x → (nat_lt x y || (x == y && b)) ≡ false
more_below x y b h = let no : nat_lt x y ≡ false = grind (arith, nat_tests) in let differs : (x == y) ≡ false = grind (arith, nat_tests) in
    ap (λ t. t || (x == y && b)) no ∙ ap (λ t. t && b) differs

above_behind : (args xs ys : List ℕ) → is_above (args ++ xs) (args ++ ys) ≡ is_above xs ys
above_behind [] xs ys = refl
above_behind (x ∷ args) xs ys = itself_below x (is_above (args ++ xs) (args ++ ys)) ∙ above_behind args xs ys

nothing_above : (args : List ℕ) → is_above args args ≡ false
nothing_above [] = refl
nothing_above (x ∷ args) = itself_below x (is_above args args) ∙ nothing_above args

count_split : (low m k : ℕ) → count_from low (m + k) ≡ count_from low m ++ count_from (low + m) k
count_split low zero k =
    let start : 0 + k ≡ k = omega arith in
    let same : low ≡ low + 0 = omega arith in
    ap (count_from low) start ∙ ap (λ l. count_from l k) same
count_split low (suc m) k =
    let longer : suc m + k ≡ suc (m + k) = omega arith in
    let same : low + 1 + m ≡ low + suc m = omega arith in
    ap (count_from low) longer ∙ ap (λ l. low ∷ l) (count_split (low + 1) m k ∙ ap (λ s. count_from (low + 1) m ++ count_from s k) same)

module _ (n : ℕ) (allowed : List ℕ → Bool) where
  abbrev tried : ℕ → List ℕ → ℕ → List (List ℕ)
  tried k args o = if allowed (args ++ o ∷ []) then lists_from n allowed k (args ++ o ∷ []) 0 else []

  -- a test that says the same of all lists that begin with some arguments
  module _ (p : List ℕ → Bool) where
    dropped : (b : Bool) (lists : List (List ℕ)) → (b ≡ true → filter p lists ≡ []) → filter p (if b then lists else []) ≡ []
    dropped true lists h = h refl
    dropped false lists h = refl

    left : (b : Bool) (lists : List (List ℕ)) → (b ≡ true → filter p lists ≡ lists) → filter p (if b then lists else []) ≡ (if b then lists else [])
    left true lists h = h refl
    left false lists h = refl

    none_over : (f : ℕ → List (List ℕ)) (numbers : List ℕ) → ((o : ℕ) → filter p (f o) ≡ []) → filter p (flat_map f numbers) ≡ []
    none_over f [] h = refl
    none_over f (o ∷ numbers) h = filter-append p (f o) (flat_map f numbers) ∙ ap (λ l. l ++ filter p (flat_map f numbers)) (h o) ∙ none_over f numbers h

    all_over : (f : ℕ → List (List ℕ)) (numbers : List ℕ) → ((o : ℕ) → filter p (f o) ≡ f o) → filter p (flat_map f numbers) ≡ flat_map f numbers
    all_over f [] h = refl
    all_over f (o ∷ numbers) h = filter-append p (f o) (flat_map f numbers) ∙ ap (λ l. l ++ filter p (flat_map f numbers)) (h o) ∙ ap (λ l. f o ++ l) (all_over f numbers h)

    none_pass : (k : ℕ) (args : List ℕ) (low : ℕ) → ((more : List ℕ) → p (args ++ more) ≡ false) → filter p (lists_from n allowed k args low) ≡ []
    unfolding lists_from
    none_pass zero args low h = ap (λ t. cond t (args ∷ []) []) (ap p (sym (append_nothing args)) ∙ h [])
    none_pass (suc k) args low h =
        none_over (tried k args) (count_from low (n - low))
        (λ o. dropped (allowed (args ++ o ∷ [])) (lists_from n allowed k (args ++ o ∷ []) 0) (λ _. none_pass k (args ++ o ∷ []) 0 (λ more. ap p (append_assoc args (o ∷ []) more) ∙ h (o ∷ more))))

    all_pass : (k : ℕ) (args : List ℕ) (low : ℕ) → ((more : List ℕ) → p (args ++ more) ≡ true) → filter p (lists_from n allowed k args low) ≡ lists_from n allowed k args low
    unfolding lists_from
    all_pass zero args low h = ap (λ t. cond t (args ∷ []) []) (ap p (sym (append_nothing args)) ∙ h [])
    all_pass (suc k) args low h =
        all_over (tried k args) (count_from low (n - low))
        (λ o. left (allowed (args ++ o ∷ [])) (lists_from n allowed k (args ++ o ∷ []) 0) (λ _. all_pass k (args ++ o ∷ []) 0 (λ more. ap p (append_assoc args (o ∷ []) more) ∙ h (o ∷ more))))

  -- the objects from some on up to another, each of which passes or none
  lower_none : (p : List ℕ → Bool) (k : ℕ) (args : List ℕ) (m low high : ℕ) → low + m ≡ high → ((o : ℕ) (more : List ℕ) → o < high → p (args ++ o ∷ more) ≡ false)
      → filter p (flat_map (tried k args) (count_from low m)) ≡ []
  lower_none p k args zero low high e h = refl
  lower_none p k args (suc m) low high e h =
      let here : filter p (tried k args low) ≡ [] =
      dropped p (allowed (args ++ low ∷ [])) (lists_from n allowed k (args ++ low ∷ []) 0)
      (λ _. none_pass p k (args ++ low ∷ []) 0 (λ more. ap p (append_assoc args (low ∷ []) more) ∙ h low more (omega (arith, e)))) in
      filter-append p (tried k args low) (flat_map (tried k args) (count_from (low + 1) m))
      ∙ ap (λ l. l ++ filter p (flat_map (tried k args) (count_from (low + 1) m))) here
      ∙ lower_none p k args m (low + 1) high (omega (arith, e)) h

  upper_all : (p : List ℕ → Bool) (k : ℕ) (args : List ℕ) (m low at : ℕ) → at ≤ low → ((o : ℕ) (more : List ℕ) → at ≤ o → p (args ++ o ∷ more) ≡ true)
      → filter p (flat_map (tried k args) (count_from low m)) ≡ flat_map (tried k args) (count_from low m)
  upper_all p k args zero low at e h = refl
  upper_all p k args (suc m) low at e h =
      let here : filter p (tried k args low) ≡ tried k args low =
      left p (allowed (args ++ low ∷ [])) (lists_from n allowed k (args ++ low ∷ []) 0)
      (λ _. all_pass p k (args ++ low ∷ []) 0 (λ more. ap p (append_assoc args (low ∷ []) more) ∙ h low more e)) in
      filter-append p (tried k args low) (flat_map (tried k args) (count_from (low + 1) m))
      ∙ ap (λ l. l ++ filter p (flat_map (tried k args) (count_from (low + 1) m))) here
      ∙ ap (λ l. tried k args low ++ l) (upper_all p k args m (low + 1) at (omega (arith, e)) h)

  -- an object with those below it and those above it
  numbers_split : (o : ℕ) → o < n → count_from 0 (n - 0) ≡ count_from 0 o ++ o ∷ count_from (o + 1) (n - (o + 1))
  numbers_split o within =
      let parts : n - 0 ≡ o + suc (n - (o + 1)) = omega arith in
      let same : 0 + o ≡ o = omega arith in
      ap (count_from 0) parts ∙ count_split 0 o (suc (n - (o + 1))) ∙ ap (λ s. count_from 0 o ++ count_from s (suc (n - (o + 1)))) same

  module _ (args : List ℕ) (o : ℕ) (more : List ℕ) (within : o < n) (opens : allowed (args ++ o ∷ []) ≡ true)
      (rest : filter (is_above ((args ++ o ∷ []) ++ more)) (lists_from n allowed (length more) (args ++ o ∷ []) 0) ≡ lists_after n allowed (args ++ o ∷ []) more) where
    abbrev test : List ℕ → Bool
    test = is_above (args ++ o ∷ more)

    below_it : (m : ℕ) (others : List ℕ) → m < o → test (args ++ m ∷ others) ≡ false
    below_it m others h = above_behind args (o ∷ more) (m ∷ others) ∙ more_below o m (is_above more others) h

    above_it : (m : ℕ) (others : List ℕ) → o + 1 ≤ m → test (args ++ m ∷ others) ≡ true
    above_it m others h = above_behind args (o ∷ more) (m ∷ others) ∙ less_above o m (is_above more others) (omega arith)

    at_it : filter test (tried (length more) args o) ≡ lists_after n allowed (args ++ o ∷ []) more
    at_it =
        ap (λ b. filter test (if b then lists_from n allowed (length more) (args ++ o ∷ []) 0 else [])) opens
        ∙ ap (λ l. filter (is_above l) (lists_from n allowed (length more) (args ++ o ∷ []) 0)) (sym (append_assoc args (o ∷ []) more)) ∙ rest

    step : filter test (lists_from n allowed (suc (length more)) args 0) ≡ lists_after n allowed args (o ∷ more)
    unfolding lists_from lists_after
    step =
        let f = tried (length more) args in
        let uppers = count_from (o + 1) (n - (o + 1)) in
        ap (λ numbers. filter test (flat_map f numbers)) (numbers_split o within)
        ∙ ap (filter test) (flat_map-append f (count_from 0 o) (o ∷ uppers))
        ∙ filter-append test (flat_map f (count_from 0 o)) (flat_map f (o ∷ uppers))
        ∙ ap (λ l. l ++ filter test (flat_map f (o ∷ uppers))) (lower_none test (length more) args o 0 o (omega arith) below_it)
        ∙ filter-append test (f o) (flat_map f uppers)
        ∙ ap (λ l. l ++ filter test (flat_map f uppers)) at_it
        ∙ ap (λ l. lists_after n allowed (args ++ o ∷ []) more ++ l) (upper_all test (length more) args (n - (o + 1)) (o + 1) (o + 1) (omega arith) above_it)

  ended : (args : List ℕ) → filter (is_above (args ++ [])) (lists_from n allowed 0 args 0) ≡ lists_after n allowed args []
  unfolding lists_from lists_after
  ended args = ap (λ l. filter (is_above l) (args ∷ [])) (append_nothing args) ∙ ap (λ t. cond t (args ∷ []) []) (nothing_above args)

  -- each way to divide a list has an allowed front, and an object behind it
  pub record IsOpenAll (args more : List ℕ) : Type 0 where
    pub fronts : (front : List ℕ) (o : ℕ) (back : List ℕ) → args ++ more ≡ front ++ o ∷ back → (o < n) × (allowed (front ++ o ∷ []) ≡ true)

  pub above_is_after : (args more : List ℕ) → IsOpenAll args more → filter (is_above (args ++ more)) (lists_from n allowed (length more) args 0) ≡ lists_after n allowed args more
  above_is_after args [] all = ended args
  above_is_after args (o ∷ more) all =
      let here = all.fronts args o more refl in
      step args o more here.0 here.1
      (above_is_after (args ++ o ∷ []) more (record { fronts = λ front m back e. all.fronts front m back (sym (append_assoc args (o ∷ []) more) ∙ e) }))
