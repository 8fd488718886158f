-- Words in rising byte order.
use Rattle.std.proofs.Common.{◌≡◌, inl, inr, ℕ, zero, suc, ◌+◌, ◌-◌, ◌<◌, ◌≤◌, Bool, true, false, List, [], ◌∷◌, map, length, get_or, drop, Option, Some, Ok, Err, Result, refl, sym, ◌∙◌, ap, subst, arith}
use Rattle.std.specs.Prelude.{◌&&◌, MatchResult, slice_get}
use Rattle.std.specs.List.{HoldsAt}
use Rattle.std.specs.List.Sorted.{IsBinarySearchResult, IsNonDecreasingBy}
use Rattle.std.specs.Option.{option_map}
use Rattle.std.specs.Result.{result_ok}
use Rattle.std.specs.Ordering.{nat_cmp, is_lt, is_ge, ordering_index, ordering_then}
use Rattle.std.specs.declared.cmp.Ordering.{Ordering}
use Rattle.std.specs.declared.cmp.Ordering.TheVariants.{Less, Equal, Greater}
use Rattle.std.specs.Cmp.Lexicographic.{slice_cmp, nat_list_cmp_total}
use Rattle.std.proofs.lemmas.Bool.{cases_lt}
use Rattle.std.proofs.lemmas.Bool.Decides.{nat_tests}
use Rattle.std.proofs.lemmas.List.{drop_more, get_or-map, length-map, length-drop}
use Rattle.kw_table.specs.Table.{byte_order, rises, Rises, IsAbsent, Finds}

first : (a b : Bool) → (a && b) ≡ true → a ≡ true
first true b is = refl
first false b is = is

second : (a b : Bool) → (a && b) ≡ true → b ≡ true
second true b is = is
second false b is = absurd (cc is)

is_less : (o : Ordering) → is_lt o ≡ true → o ≡ Less
is_less Less is = refl
is_less Equal is = absurd (cc is)
is_less Greater is = absurd (cc is)

-- words that are equal in byte order are equal
same_number : (m n : ℕ) → nat_cmp m n ≡ Equal → m ≡ n
same_number m n is = grind (arith, nat_tests)

then_equal : (a b : Ordering) → ordering_then a b ≡ Equal → (a ≡ Equal) × (b ≡ Equal)
then_equal Less b is = absurd (cc is)
then_equal Equal b is = (refl, is)
then_equal Greater b is = absurd (cc is)

same_word : (v w : List ℕ) → byte_order v w ≡ Equal → v ≡ w
same_word [] [] is = refl
same_word [] (n ∷ w) is = absurd (cc is)
same_word (m ∷ v) [] is = absurd (cc is)
same_word (m ∷ v) (n ∷ w) is =
    let parts = then_equal (nat_cmp m n) (slice_cmp nat_cmp v w) is in
    ap (λ (x : ℕ). x ∷ v) (same_number m n parts.0) ∙ ap (λ (l : List ℕ). n ∷ l) (same_word v w parts.1)

number_itself : (n : ℕ) → nat_cmp n n ≡ Equal
number_itself n = grind (arith, nat_tests)

word_itself : (w : List ℕ) → byte_order w w ≡ Equal
word_itself [] = refl
word_itself (n ∷ w) = ap (λ (o : Ordering). ordering_then o (slice_cmp nat_cmp w w)) (number_itself n) ∙ word_itself w

-- the first word is below the others, and so each is below those after it
head_below : (v : List ℕ) (words : List (List ℕ)) → rises (v ∷ words) ≡ true → (j : ℕ) → j < length words → byte_order v (get_or words j []) ≡ Less
head_below v [] is j below = absurd (omega (arith, below))
head_below v (w ∷ words) is zero below = is_less (byte_order v w) (first _ _ is)
head_below v (w ∷ words) is (suc j) below =
    nat_list_cmp_total.trans v w (get_or words j []) (is_less (byte_order v w) (first _ _ is)) (head_below w words (second (is_lt (byte_order v w)) _ is) j (omega (arith, below)))

tail_rises : (v : List ℕ) (words : List (List ℕ)) → rises (v ∷ words) ≡ true → rises words ≡ true
tail_rises v [] is = refl
tail_rises v (w ∷ words) is = second (is_lt (byte_order v w)) _ is

each_below : (words : List (List ℕ)) → rises words ≡ true → (i j : ℕ) → i < j → j < length words → byte_order (get_or words i []) (get_or words j []) ≡ Less
each_below [] is i j less below = absurd (omega (arith, below))
each_below (v ∷ words) is zero zero less below = absurd (omega (arith, less))
each_below (v ∷ words) is zero (suc j) less below = head_below v words is j (omega (arith, below))
each_below (v ∷ words) is (suc i) zero less below = absurd (omega (arith, less))
each_below (v ∷ words) is (suc i) (suc j) less below = each_below words (tail_rises v words is) i j (omega (arith, less)) (omega (arith, below))

-- one comparison of `sorted`
pub rises_more : (words : List (List ℕ)) (at : ℕ) → 0 < at → at < length words
    → rises (drop (at - 1) words) ≡ (is_lt (byte_order (get_or words (at - 1) []) (get_or words at [])) && rises (drop at words))
rises_more words at some below =
    let place : at - 1 + 1 ≡ at = omega arith in
    let here : drop (at - 1) words ≡ get_or words (at - 1) [] ∷ drop at words = drop_more words (at - 1) [] (omega (arith, below)) ∙ ap (λ (n : ℕ). get_or words (at - 1) [] ∷ drop n words) place in
    let next = drop_more words at [] below in
    ap rises here ∙ ap (λ (l : List (List ℕ)). rises (get_or words (at - 1) [] ∷ l)) next ∙ sym (ap (λ (l : List (List ℕ)). is_lt (byte_order (get_or words (at - 1) []) (get_or words at [])) && rises l) next)

pub rises_all : (words : List (List ℕ)) (at : ℕ) → length words ≤ at → rises (drop (at - 1) words) ≡ true
rises_all words at end = short (drop (at - 1) words) (omega (arith, end, length-drop (at - 1) words))
  where
    short : (l : List (List ℕ)) → length l ≤ 1 → rises l ≡ true
    short [] small = refl
    short (w ∷ []) small = refl
    short (v ∷ w ∷ l) small = absurd (omega (arith, small))

module _ {X : Type 0} (text : X → List ℕ) where
  slice_get-map : (xs : List X) (i : ℕ) → slice_get (map text xs) i ≡ option_map text (slice_get xs i)
  slice_get-map [] i = refl
  slice_get-map (x ∷ xs) zero = refl
  slice_get-map (x ∷ xs) (suc i) = slice_get-map xs i

  -- the word at a place in range
  word_at : (word : List ℕ) (xs : List X) (i : ℕ) → i < length xs → HoldsAt (λ y. byte_order (text y) word ≡ Equal) xs i → slice_get (map text xs) i ≡ Some word
  word_at word [] i below holds = absurd (omega (arith, below))
  word_at word (x ∷ xs) zero below holds = ap Some (same_word (text x) word (holds x))
  word_at word (x ∷ xs) (suc i) below holds = word_at word xs i (omega (arith, below)) holds

  -- a word that a table has is at a place in range
  record Has (word : List ℕ) (xs : List X) (at : ℕ) : Type 0 where
    some : X
    below : at < length xs
    here : (d : X) → text (get_or xs at d) ≡ word

  has : (word : List ℕ) (xs : List X) (at : ℕ) → slice_get (map text xs) at ≡ Some word → Has word xs at
  has word [] at is = absurd (cc is)
  has word (x ∷ xs) zero is = record { some = x; below = omega arith; here = λ d. cc is }
  has word (x ∷ xs) (suc at) is = let rest = has word xs at is in record { some = rest.some; below = omega (arith, rest.below); here = rest.here }

  index_rises : (a b : Ordering) → (b ≡ Less → a ≡ Less) → (b ≡ Equal → a ≡ Less) → ordering_index a ≤ ordering_index b
  index_rises Less b less equal = omega arith
  index_rises Equal Less less equal = absurd (cc (less refl))
  index_rises Equal Equal less equal = omega arith
  index_rises Equal Greater less equal = omega arith
  index_rises Greater Less less equal = absurd (cc (less refl))
  index_rises Greater Equal less equal = absurd (cc (equal refl))
  index_rises Greater Greater less equal = omega arith

  -- the answers of the search rise where the words do
  answers_rise : (word : List ℕ) (xs : List X) → Rises (map text xs) → IsNonDecreasingBy (λ y. ordering_index (byte_order (text y) word)) xs
  answers_rise word xs sorted i j d less below = elim (cases_lt i j) [
    | inl before ↦
        let v = text (get_or xs i d) in
        let w = text (get_or xs j d) in
        let same_v : get_or (map text xs) i [] ≡ v = get_or-map text xs i d [] (omega (arith, less, below)) in
        let same_w : get_or (map text xs) j [] ≡ w = get_or-map text xs j d [] below in
        let lower : byte_order v w ≡ Less =
        sym (ap (λ (l : List ℕ). byte_order l (get_or (map text xs) j [])) same_v ∙ ap (λ (l : List ℕ). byte_order v l) same_w)
        ∙ each_below (map text xs) sorted i j before (omega (arith, below, length-map xs text)) in
        index_rises (byte_order v word) (byte_order w word)
        (λ is. nat_list_cmp_total.trans v w word lower is)
        (λ is. ap (λ (l : List ℕ). byte_order v l) (sym (same_word w word is)) ∙ lower)
    | inr same ↦
        let at : i ≡ j = omega (arith, same, less) in
        omega (arith, ap (λ (n : ℕ). ordering_index (byte_order (text (get_or xs n d)) word)) at)
  ]

  is_absent : (word : List ℕ) (words : List (List ℕ)) → ((at : ℕ) → slice_get words at ≡ Some word → ⊥) → IsAbsent word words
  is_absent word [] absent = tt
  is_absent word (w ∷ words) absent = (λ same. absent 0 (ap Some same), is_absent word words (λ at. absent (suc at)))

  -- what the search answers
  pub finds : (word : List ℕ) (xs : List X) (r : Result ℕ ℕ) (found : Option ℕ) → Rises (map text xs) → found ≡ result_ok r
      → MatchResult r (λ i. i < length xs) (λ i. i ≤ length xs) → IsBinarySearchResult (λ y. byte_order (text y) word) xs r → Finds (map text xs) word found
  finds word xs (Ok i) found sorted is bound holds = subst (Finds (map text xs) word) (sym is) (word_at word xs i bound holds)
  finds word xs (Err i) found sorted is bound apart = subst (Finds (map text xs) word) (sym is) (is_absent word (map text xs) (λ at same. absent at (has word xs at same)))
    where
      absent : (at : ℕ) → Has word xs at → ⊥
      absent at it =
          let parts = apart (answers_rise word xs sorted) in
          let equal : byte_order (text (get_or xs at it.some)) word ≡ Equal = ap (λ (l : List ℕ). byte_order l word) (it.here it.some) ∙ word_itself word in
          elim (cases_lt at i) [
            | inl before ↦ cc (equal, parts.0 at it.some (omega arith) before)
            | inr behind ↦ cc (equal, parts.1 at it.some behind it.below)
          ]

-- where a comparison fails, and where it holds
pub falls_at : (words : List (List ℕ)) (at : ℕ) → 0 < at → at < length words → is_lt (byte_order (get_or words (at - 1) []) (get_or words at [])) ≡ false
    → rises (drop (at - 1) words) ≡ rises words → rises words ≡ false
falls_at words at some below falls so_far = sym so_far ∙ rises_more words at some below ∙ ap (λ (t : Bool). t && rises (drop at words)) falls

pub rises_at : (words : List (List ℕ)) (at : ℕ) → 0 < at → at < length words → is_lt (byte_order (get_or words (at - 1) []) (get_or words at [])) ≡ true
    → rises (drop (at - 1) words) ≡ rises words → rises (drop at words) ≡ rises words
rises_at words at some below less so_far = sym (sym so_far ∙ rises_more words at some below ∙ ap (λ (t : Bool). t && rises (drop at words)) less)

pub isnt_less : (o : Ordering) → is_ge o ≡ true → is_lt o ≡ false
isnt_less Less is = absurd (cc is)
isnt_less Equal is = refl
isnt_less Greater is = refl

pub less : (o : Ordering) → is_ge o ≡ false → is_lt o ≡ true
less Less is = refl
less Equal is = absurd (cc is)
less Greater is = absurd (cc is)

-- the comparison of two neighbours, as the code makes it
pub neighbours : {X : Type 0} (text : X → List ℕ) (xs : List X) (at : ℕ) (v w : List ℕ) (d e : X) → at < length xs → v ≡ text (get_or xs (at - 1) d) → w ≡ text (get_or xs at e)
    → byte_order v w ≡ byte_order (get_or (map text xs) (at - 1) []) (get_or (map text xs) at [])
neighbours text xs at v w d e below v_is w_is =
    ap (λ (l : List ℕ). byte_order l w) (v_is ∙ sym (get_or-map text xs (at - 1) d [] (omega (arith, below))))
    ∙ ap (λ (l : List ℕ). byte_order (get_or (map text xs) (at - 1) []) l) (w_is ∙ sym (get_or-map text xs at e [] below))
