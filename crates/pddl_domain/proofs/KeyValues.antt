-- The keys of an action and their values, tree by tree, stand in turn.
use Rattle.std.proofs.Common.{◌≡◌, ℕ, Bool, true, false, List, [], ◌∷◌, map, refl, sym, ◌∙◌, ap}
use Rattle.std.specs.Prelude.{if◌then◌else◌, codes, bytes_eq, not, ◌||◌, ◌↔◌}
use Rattle.std.specs.List.{list_all}
use Rattle.std.proofs.lemmas.Bool.{and_parts, and_from}
use Rattle.std.proofs.lemmas.Slice.Eq.{bytes_eq-Decides}
use Rattle.sexpr.specs.declared.tree.Tree.{Tree}
use Rattle.sexpr.specs.Opened.{start_of}
use Rattle.pddl_form.specs.Faults.{shape}
use Rattle.pddl_form.specs.Judged.{Judged, good, each, besides, closing, lacking, misshapen}
use Rattle.pddl_form.specs.Names.{is_one_of}
use Rattle.pddl_form.specs.Words.{word_of}
use Rattle.pddl_form.proofs.Groups.{both_give, both_good, by_test}
use Rattle.pddl_domain.specs.declared.action.Key.{Key}
use Rattle.pddl_domain.specs.declared.action.Key.TheVariants as key
use Rattle.pddl_domain.specs.declared.action.Part.{Part}
use Rattle.pddl_domain.specs.declared.action.SeenKeys.{SeenKeys}
use Rattle.pddl_domain.specs.Action.{key_of, no_keys, see_key, is_wrong_key, part_by, part_form, lone_key, parts_behind}
use Rattle.pddl_domain.specs.KeyValues.{KeyValue, in_turn, key_words, are_distinct, value_form, AreKeysAndValues}

-- ---- the keys that stood in front

-- a word whose key may still stand
abbrev is_free : SeenKeys → List ℕ → Bool
is_free seen word = not (is_wrong_key (key_of word) seen)

seen_is_wrong : (k : Key) (seen : SeenKeys) → is_wrong_key k (see_key k seen) ≡ true
seen_is_wrong key.Parameters seen = refl
seen_is_wrong key.Precondition seen = refl
seen_is_wrong key.Effect seen = refl
seen_is_wrong key.Unknown seen = refl

free_before : (k other : Key) (seen : SeenKeys) → not (is_wrong_key other (see_key k seen)) ≡ true → not (is_wrong_key other seen) ≡ true
free_before key.Parameters key.Parameters seen is = absurd (cc is)
free_before key.Parameters key.Precondition seen is = is
free_before key.Parameters key.Effect seen is = is
free_before key.Parameters key.Unknown seen is = is
free_before key.Precondition key.Parameters seen is = is
free_before key.Precondition key.Precondition seen is = absurd (cc is)
free_before key.Precondition key.Effect seen is = is
free_before key.Precondition key.Unknown seen is = is
free_before key.Effect key.Parameters seen is = is
free_before key.Effect key.Precondition seen is = is
free_before key.Effect key.Effect seen is = absurd (cc is)
free_before key.Effect key.Unknown seen is = is
free_before key.Unknown other seen is = is

all_free_before : (k : Key) (seen : SeenKeys) (words : List (List ℕ)) → list_all (is_free (see_key k seen)) words ≡ true → list_all (is_free seen) words ≡ true
all_free_before k seen [] all = refl
all_free_before k seen (w ∷ words) all =
    let parts = and_parts (is_free (see_key k seen) w) (list_all (is_free (see_key k seen)) words) all in
    and_from (is_free seen w) (list_all (is_free seen) words) (free_before k (key_of w) seen parts.0) (all_free_before k seen words parts.1)

not_both : (b : Bool) → b ≡ true → not b ≡ true → ⊥
not_both true is isnt = cc isnt
not_both false is isnt = cc is

not_true : (b : Bool) → b ≡ false → not b ≡ true
not_true true is = absurd (cc is)
not_true false is = refl

is_false : (b : Bool) → not b ≡ true → b ≡ false
is_false true is = absurd (cc is)
is_false false is = refl

-- a word whose key stood in front is none of the free ones
none_of_free : (seen : SeenKeys) (words : List (List ℕ)) (w : List ℕ) → list_all (is_free seen) words ≡ true → is_wrong_key (key_of w) seen ≡ true → is_one_of words w ≡ false
none_of_free seen [] w all wrong = refl
none_of_free seen (v ∷ words) w all wrong =
    let parts = and_parts (is_free seen v) (list_all (is_free seen) words) all in
    by_test (bytes_eq v w)
    (λ same. absurd (not_both (is_wrong_key (key_of v) seen) (ap (λ (u : List ℕ). is_wrong_key (key_of u) seen) ((bytes_eq-Decides v w).0 same) ∙ wrong) parts.0))
    (λ other. ap (λ (b : Bool). b || is_one_of words w) other ∙ none_of_free seen words w parts.1 wrong)

-- ---- each key has one word

abbrev IsWordOf : Key → List ℕ → Type 0
IsWordOf key.Parameters w = w ≡ codes ":parameters"
IsWordOf key.Precondition w = w ≡ codes ":precondition"
IsWordOf key.Effect w = w ≡ codes ":effect"
IsWordOf key.Unknown w = Unit {0}

key_by : (a b c : Bool) (w : List ℕ) → (a ≡ true → w ≡ codes ":parameters") → (b ≡ true → w ≡ codes ":precondition") → (c ≡ true → w ≡ codes ":effect")
    → IsWordOf (if a then key.Parameters else (if b then key.Precondition else (if c then key.Effect else key.Unknown))) w
key_by true b c w p q r = p refl
key_by false true c w p q r = q refl
key_by false false true w p q r = r refl
key_by false false false w p q r = tt

its_word : (w : List ℕ) → IsWordOf (key_of w) w
unfolding key_of
its_word w =
    key_by (bytes_eq w (codes ":parameters")) (bytes_eq w (codes ":precondition")) (bytes_eq w (codes ":effect")) w
    (λ is. (bytes_eq-Decides w (codes ":parameters")).0 is) (λ is. (bytes_eq-Decides w (codes ":precondition")).0 is) (λ is. (bytes_eq-Decides w (codes ":effect")).0 is)

-- another word than one that is seen is still free
still_free : (k j : Key) (seen : SeenKeys) (v w : List ℕ) → IsWordOf k v → IsWordOf j w → (v ≡ w → ⊥) → not (is_wrong_key k seen) ≡ true → not (is_wrong_key k (see_key j seen)) ≡ true
still_free key.Parameters key.Parameters seen v w is so other free = absurd (other (is ∙ sym so))
still_free key.Parameters key.Precondition seen v w is so other free = free
still_free key.Parameters key.Effect seen v w is so other free = free
still_free key.Parameters key.Unknown seen v w is so other free = free
still_free key.Precondition key.Parameters seen v w is so other free = free
still_free key.Precondition key.Precondition seen v w is so other free = absurd (other (is ∙ sym so))
still_free key.Precondition key.Effect seen v w is so other free = free
still_free key.Precondition key.Unknown seen v w is so other free = free
still_free key.Effect key.Parameters seen v w is so other free = free
still_free key.Effect key.Precondition seen v w is so other free = free
still_free key.Effect key.Effect seen v w is so other free = absurd (other (is ∙ sym so))
still_free key.Effect key.Unknown seen v w is so other free = free
still_free key.Unknown j seen v w is so other free = absurd (cc free)

not_or : (a b : Bool) → not (a || b) ≡ true → not b ≡ true
not_or true b is = absurd (cc is)
not_or false b is = is

all_still_free : (seen : SeenKeys) (words : List (List ℕ)) (w : List ℕ) → not (is_one_of words w) ≡ true → list_all (is_free seen) words ≡ true → list_all (is_free (see_key (key_of w) seen)) words ≡ true
all_still_free seen [] w other all = refl
all_still_free seen (v ∷ words) w other all =
    let parts = and_parts (is_free seen v) (list_all (is_free seen) words) all in
    and_from (is_free (see_key (key_of w) seen) v) (list_all (is_free (see_key (key_of w) seen)) words)
    (still_free (key_of v) (key_of w) seen v w (its_word v) (its_word w) (λ same. not_both (bytes_eq v w || is_one_of words w) (ap (λ (b : Bool). b || is_one_of words w) ((bytes_eq-Decides v w).1 same)) other) parts.0)
    (all_still_free seen words w (not_or (bytes_eq v w) (is_one_of words w) other) parts.1)

-- ---- a part behind the keys that stood in front

record PartGives (seen : SeenKeys) (word value : Tree) (made : Part) : Type 0 where
  free : is_free seen (word_of word) ≡ true
  is : part_by (key_of (word_of word)) word value ≡ good made

abbrev part_if : Bool → ℕ → Judged Part → Judged Part
part_if wrong place j = if wrong then misshapen place else j

part_by_test : (wrong : Bool) (place : ℕ) (j : Judged Part) (made : Part) → part_if wrong place j ≡ good made → (wrong ≡ false) × (j ≡ good made)
part_by_test true place j made is = absurd (cc is)
part_by_test false place j made is = (refl, is)

part_gives : (seen : SeenKeys) (word value : Tree) (made : Part) → part_form seen word value ≡ good made → PartGives seen word value made
unfolding part_form
part_gives seen word value made is =
    let both = part_by_test (is_wrong_key (key_of (word_of word)) seen) (start_of word) (part_by (key_of (word_of word)) word value) made is in
    record { free = not_true (is_wrong_key (key_of (word_of word)) seen) both.0; is = both.1 }

part_good : (seen : SeenKeys) (word value : Tree) (made : Part) → is_free seen (word_of word) ≡ true → part_by (key_of (word_of word)) word value ≡ good made → part_form seen word value ≡ good made
unfolding part_form
part_good seen word value made free is = ap (λ (b : Bool). part_if b (start_of word) (part_by (key_of (word_of word)) word value)) (is_false (is_wrong_key (key_of (word_of word)) seen) free) ∙ is

lone_by_test : (wrong : Bool) (place end : ℕ) (parts : List Part) → (if wrong then besides (shape (closing end)) (misshapen place) else lacking end) ≡ good parts → ⊥
lone_by_test true place end parts is = cc is
lone_by_test false place end parts is = cc is

lone_gives : (seen : SeenKeys) (word : Tree) (end : ℕ) (parts : List Part) → lone_key seen word end ≡ good parts → ⊥
unfolding lone_key
lone_gives seen word end parts is = lone_by_test (is_wrong_key (key_of (word_of word)) seen) (start_of word) end parts is

-- ---- keys and values stand in turn

module _ (end : ℕ) where
  -- they do, and no key among them stood in front
  record AreFound (seen : SeenKeys) (trees : List Tree) (parts : List Part) : Type 0 where
    found : AreKeysAndValues trees parts
    free : list_all (is_free seen) (key_words found.pairs) ≡ true

  keys_found : (trees : List Tree) (seen : SeenKeys) (parts : List Part) → parts_behind end seen trees ≡ good parts → AreFound seen trees parts
  unfolding parts_behind
  keys_found [] seen parts is = record { found = record { pairs = []; once = refl; spelled = refl; syntax = is }; free = refl }
  keys_found (word ∷ []) seen parts is = absurd (lone_gives seen word end parts is)
  keys_found (word ∷ value ∷ more) seen parts is =
      let k = key_of (word_of word) in
      let whole = both_give ◌∷◌ (part_form seen word value) (parts_behind end (see_key k seen) more) parts is in
      let here = part_gives seen word value whole.left whole.left_is in
      let rest = keys_found more (see_key k seen) whole.right whole.right_is in
      let others = key_words rest.found.pairs in
      record {
        found = record {
          pairs = record { key = word; value = value } ∷ rest.found.pairs;
          once = and_from (not (is_one_of others (word_of word))) (are_distinct others) (not_true (is_one_of others (word_of word)) (none_of_free (see_key k seen) others (word_of word) rest.free (seen_is_wrong k seen))) rest.found.once;
          spelled = ap (λ (ts : List Tree). word ∷ value ∷ ts) rest.found.spelled;
          syntax = both_good ◌∷◌ (part_by k word value) (each (map value_form rest.found.pairs)) whole.left whole.right here.is rest.found.syntax ∙ ap good (sym whole.whole_is);
        };
        free = and_from (is_free seen (word_of word)) (list_all (is_free seen) others) here.free (all_free_before k seen others rest.free);
      }

  keys_read : (pairs : List KeyValue) (seen : SeenKeys) (parts : List Part) → are_distinct (key_words pairs) ≡ true → list_all (is_free seen) (key_words pairs) ≡ true → each (map value_form pairs) ≡ good parts → parts_behind end seen (in_turn pairs) ≡ good parts
  unfolding parts_behind
  keys_read [] seen parts once free is = is
  keys_read (p ∷ pairs) seen parts once free is =
      let w = word_of p.key in
      let first = and_parts (not (is_one_of (key_words pairs) w)) (are_distinct (key_words pairs)) once in
      let frees = and_parts (is_free seen w) (list_all (is_free seen) (key_words pairs)) free in
      let whole = both_give ◌∷◌ (value_form p) (each (map value_form pairs)) parts is in
      both_good ◌∷◌ (part_form seen p.key p.value) (parts_behind end (see_key (key_of w) seen) (in_turn pairs)) whole.left whole.right
      (part_good seen p.key p.value whole.left frees.0 whole.left_is)
      (keys_read pairs (see_key (key_of w) seen) whole.right first.1 (all_still_free seen (key_words pairs) w first.0 frees.1) whole.right_is)
      ∙ ap good (sym whole.whole_is)

  known_is_free : (k : Key) (word value : Tree) (made : Part) → part_by k word value ≡ good made → not (is_wrong_key k no_keys) ≡ true
  known_is_free key.Parameters word value made is = refl
  known_is_free key.Precondition word value made is = refl
  known_is_free key.Effect word value made is = refl
  known_is_free key.Unknown word value made is = absurd (cc is)

  all_free : (pairs : List KeyValue) (parts : List Part) → each (map value_form pairs) ≡ good parts → list_all (is_free no_keys) (key_words pairs) ≡ true
  all_free [] parts is = refl
  all_free (p ∷ pairs) parts is =
      let whole = both_give ◌∷◌ (value_form p) (each (map value_form pairs)) parts is in
      and_from (is_free no_keys (word_of p.key)) (list_all (is_free no_keys) (key_words pairs)) (known_is_free (key_of (word_of p.key)) p.key p.value whole.left whole.left_is) (all_free pairs whole.right whole.right_is)

  pub parts_stand_in_turn : (trees : List Tree) (parts : List Part) → (parts_behind end no_keys trees ≡ good parts) ↔ AreKeysAndValues trees parts
  parts_stand_in_turn trees parts =
      (λ is. (keys_found trees no_keys parts is).found, λ h. ap (parts_behind end no_keys) h.spelled ∙ keys_read h.pairs no_keys parts h.once (all_free h.pairs parts h.syntax) h.syntax)
