-- The lists that the search goes through are all lists, filtered.
use Rattle.std.proofs.Common.{◌≡◌, ℕ, zero, suc, ◌+◌, ◌-◌, Bool, true, false, cond, List, [], ◌∷◌, ◌++◌, map, length, filter, if◌then◌else◌, refl, sym, ap, ◌∙◌, append_assoc, arith}
use Rattle.std.proofs.lemmas.List.{map-append, length-append}
use Rattle.std.proofs.lemmas.List.Elements.{filter-append}
use Rattle.std.specs.List.{flat_map}
use Rattle.ground_instances.specs.ArgumentLists.{count_from, lists_below}
use Rattle.ground_instances.specs.inside.Search.{lists_from}

append_nothing : {A : Type 0} (xs : List A) → xs ++ [] ≡ xs
append_nothing [] = refl
append_nothing (x ∷ xs) = ap (λ l. x ∷ l) (append_nothing xs)

-- filtering finds what passes
pub head_passes : {A : Type 0} (p : A → Bool) (xs : List A) (y : A) (ys : List A) → filter p xs ≡ y ∷ ys → p y ≡ true
head_passes p [] y ys e = cc
head_passes p (x ∷ xs) y ys e = by (p x) refl (λ f. head_passes p xs y ys f)
  where
    by : (b : Bool) → p x ≡ b → (filter p xs ≡ y ∷ ys → p y ≡ true) → p y ≡ true
    by true h later = let is : x ≡ y = (let l : x ∷ filter p xs ≡ y ∷ ys = ap (λ t. cond t (x ∷ filter p xs) (filter p xs)) (sym h) ∙ e in cc) in ap p (sym is) ∙ h
    by false h later = later (ap (λ t. cond t (x ∷ filter p xs) (filter p xs)) (sym h) ∙ e)

module _ (n total : ℕ) (allowed suits : List ℕ → Bool) (need : (args more : List ℕ) → suits (args ++ more) ≡ true → allowed args ≡ true)
    (enough : (args : List ℕ) → length args ≡ total → allowed args ≡ true → suits args ≡ true) where
  abbrev behind : List ℕ → List (List ℕ) → List (List ℕ)
  behind args lists = filter suits (map (λ more. args ++ more) lists)

  -- nothing that begins with arguments that aren't allowed suits
  shut : (args : List ℕ) → allowed args ≡ false → (lists : List (List ℕ)) → behind args lists ≡ []
  shut args e [] = refl
  shut args e (more ∷ lists) = by (suits (args ++ more)) refl (shut args e lists)
    where
      by : (b : Bool) → suits (args ++ more) ≡ b → behind args lists ≡ [] → behind args (more ∷ lists) ≡ []
      by true h later = let never : false ≡ true = sym e ∙ need args more h in cc
      by false h later = ap (λ t. cond t ((args ++ more) ∷ behind args lists) (behind args lists)) h ∙ later

  one_more : (args : List ℕ) (o : ℕ) (lists : List (List ℕ)) → behind args (map (λ more. o ∷ more) lists) ≡ behind (args ++ o ∷ []) lists
  one_more args o [] = refl
  one_more args o (more ∷ lists) =
      ap (λ l. cond (suits l) (l ∷ behind args (map (λ m. o ∷ m) lists)) (behind args (map (λ m. o ∷ m) lists))) (sym (append_assoc args (o ∷ []) more))
      ∙ ap (λ r. cond (suits ((args ++ o ∷ []) ++ more)) (((args ++ o ∷ []) ++ more) ∷ r) r) (one_more args o lists)

  tried_is : (k : ℕ) (args : List ℕ) (o : ℕ) → (allowed (args ++ o ∷ []) ≡ true → lists_from n allowed k (args ++ o ∷ []) 0 ≡ behind (args ++ o ∷ []) (lists_below n k))
      → (if allowed (args ++ o ∷ []) then lists_from n allowed k (args ++ o ∷ []) 0 else []) ≡ behind args (map (λ more. o ∷ more) (lists_below n k))
  tried_is k args o rest = by (allowed (args ++ o ∷ [])) refl ∙ sym (one_more args o (lists_below n k))
    where
      by : (b : Bool) → allowed (args ++ o ∷ []) ≡ b → (if b then lists_from n allowed k (args ++ o ∷ []) 0 else []) ≡ behind (args ++ o ∷ []) (lists_below n k)
      by true h = rest h
      by false h = sym (shut (args ++ o ∷ []) h (lists_below n k))

  -- each object in turn
  over_numbers : (k : ℕ) (args : List ℕ) → ((o : ℕ) → allowed (args ++ o ∷ []) ≡ true → lists_from n allowed k (args ++ o ∷ []) 0 ≡ behind (args ++ o ∷ []) (lists_below n k))
      → (numbers : List ℕ) → flat_map (λ o. if allowed (args ++ o ∷ []) then lists_from n allowed k (args ++ o ∷ []) 0 else []) numbers ≡ behind args (flat_map (λ o. map (λ more. o ∷ more) (lists_below n k)) numbers)
  over_numbers k args rest [] = refl
  over_numbers k args rest (o ∷ numbers) =
      let one = map (λ more. o ∷ more) (lists_below n k) in
      let others = flat_map (λ m. map (λ more. m ∷ more) (lists_below n k)) numbers in
      let split : behind args (one ++ others) ≡ behind args one ++ behind args others =
      ap (filter suits) (map-append (λ more. args ++ more) one others) ∙ filter-append suits (map (λ more. args ++ more) one) (map (λ more. args ++ more) others) in
      ap (λ l. l ++ flat_map (λ m. if allowed (args ++ m ∷ []) then lists_from n allowed k (args ++ m ∷ []) 0 else []) numbers) (tried_is k args o (rest o))
      ∙ ap (λ l. behind args one ++ l) (over_numbers k args rest numbers) ∙ sym split

  long : (k : ℕ) (args : List ℕ) (o : ℕ) → length args + suc k ≡ total → length (args ++ o ∷ []) + k ≡ total
  long k args o e = omega (arith, length-append args (o ∷ []), e)

  pub from_is_filtered : (k : ℕ) (args : List ℕ) → length args + k ≡ total → allowed args ≡ true → lists_from n allowed k args 0 ≡ behind args (lists_below n k)
  unfolding lists_from
  from_is_filtered zero args whole opens =
      let yes : suits (args ++ []) ≡ true = ap suits (append_nothing args) ∙ enough args (omega (arith, whole)) opens in
      sym (ap (λ t. cond t ((args ++ []) ∷ []) []) yes ∙ ap (λ l. l ∷ []) (append_nothing args))
  from_is_filtered (suc k) args whole opens =
      let start : n - 0 ≡ n = omega arith in
      ap (λ m. flat_map (λ o. if allowed (args ++ o ∷ []) then lists_from n allowed k (args ++ o ∷ []) 0 else []) (count_from 0 m)) start
      ∙ over_numbers k args (λ o h. from_is_filtered k (args ++ o ∷ []) (long k args o whole) h) (count_from 0 n)

  map_itself : (lists : List (List ℕ)) → map (λ more. [] ++ more) lists ≡ lists
  map_itself [] = refl
  map_itself (l ∷ lists) = ap (λ r. l ∷ r) (map_itself lists)

  pub all_lists : allowed [] ≡ true → lists_from n allowed total [] 0 ≡ filter suits (lists_below n total)
  all_lists opens = from_is_filtered total [] (omega arith) opens ∙ ap (filter suits) (map_itself (lists_below n total))

  pub no_lists : allowed [] ≡ false → filter suits (lists_below n total) ≡ []
  no_lists e = sym (ap (filter suits) (map_itself (lists_below n total))) ∙ shut [] e (lists_below n total)
