-- A typed list, item by item, is its groups.
use Rattle.std.proofs.Common.{◌≡◌, ℕ, Bool, true, false, List, [], ◌∷◌, ◌++◌, length, map, refl, sym, ◌∙◌, ap, subst, append_assoc, arith}
use Rattle.std.specs.Prelude.{if◌then◌else◌, codes, not, ◌&&◌, ◌==◌, ◌↔◌}
use Rattle.std.specs.List.{list_all}
use Rattle.std.proofs.lemmas.Bool.{and_parts, and_from}
use Rattle.std.proofs.lemmas.Bool.Decides.{nat_tests}
use Rattle.std.proofs.lemmas.List.{append-nil, map-append}
use Rattle.std.proofs.lemmas.Slice.Eq.{bytes_eq-Decides}
use Rattle.sexpr.specs.declared.tree.Tree.{Tree}
use Rattle.sexpr.specs.Opened.{start_of}
use Rattle.pddl_form.specs.declared.fault.Fault.{Fault}
use Rattle.pddl_form.specs.declared.names.Sort.{Sort}
use Rattle.pddl_form.specs.declared.names.Sort.TheVariants.{Name, Variable, Term, Keyword}
use Rattle.pddl_form.specs.declared.spot.Spot.{Spot}
use Rattle.pddl_form.specs.declared.typed.Typed.{Typed}
use Rattle.pddl_form.specs.Faults.{shape}
use Rattle.pddl_form.specs.Gather.{push}
use Rattle.pddl_form.specs.Judged.{Judged, good, bad, syntax_of, closing, mapped, both, each, besides, provided}
use Rattle.pddl_form.specs.Names.{takes}
use Rattle.pddl_form.specs.Words.{word_of, is_word, spotted, word_form, word_forms}
use Rattle.pddl_form.specs.Typed.{type_form, all_with_types, untyped, has_item, in_front_of, behind_items, behind_dash, typed_list}
use Rattle.pddl_form.specs.Groups.{Group, is_group, trees_of, groups_form, IsTypedList}
use Rattle.pddl_form.proofs.Judging.{each-push}

-- ---- what a syntax of a whole says of its parts

pub record BothGive {A B C : Type 0} (g : A → B → C) (i : Judged A) (j : Judged B) (c : C) : Type 0 where
  pub left : A
  pub right : B
  pub left_is : i ≡ good left
  pub right_is : j ≡ good right
  pub whole_is : c ≡ g left right

pub both_give : {A B C : Type 0} (g : A → B → C) (i : Judged A) (j : Judged B) (c : C) → both g i j ≡ good c → BothGive g i j c
both_give g (good a) (good b) c is = record { left = a; right = b; left_is = refl; right_is = refl; whole_is = cc is }
both_give g (good a) (bad f more) c is = absurd (cc is)
both_give g (bad f more) j c is = absurd (cc is)

pub both_good : {A B C : Type 0} (g : A → B → C) (i : Judged A) (j : Judged B) (a : A) (b : B) → i ≡ good a → j ≡ good b → both g i j ≡ good (g a b)
both_good {A} {B} {C} g i j a b is so = ap (λ (k : Judged A). both g k j) is ∙ ap (λ (k : Judged B). both g (good a) k) so

pub besides_give : {A : Type 0} (f : Fault) (j : Judged A) (a : A) → besides f j ≡ good a → ⊥
besides_give f (good b) a is = cc is
besides_give f (bad g more) a is = cc is

pub record ProvidedGives {A : Type 0} (b : Bool) (j : Judged A) (a : A) : Type 0 where
  pub holds : b ≡ true
  pub is : j ≡ good a

pub provided_give : {A : Type 0} (b : Bool) (f : Fault) (j : Judged A) (a : A) → provided b f j ≡ good a → ProvidedGives b j a
provided_give true f j a is = record { holds = refl; is = is }
provided_give false f j a is = absurd (besides_give f j a is)

pub by_test : {P : Type 0} (b : Bool) → (b ≡ true → P) → (b ≡ false → P) → P
by_test true so isnt = so refl
by_test false so isnt = isnt refl

-- ---- words

no_sort_takes_dash : (sort : Sort) → takes sort (codes "-") ≡ false
no_sort_takes_dash Name = refl
no_sort_takes_dash Variable = refl
no_sort_takes_dash Term = refl
no_sort_takes_dash Keyword = refl

spotted_gives : (b : Bool) (t : Tree) (s : Spot) → spotted b t ≡ good s → b ≡ true
spotted_gives true t s is = refl
spotted_gives false t s is = absurd (cc is)

not_a_dash : (sort : Sort) (t : Tree) (s : Spot) → word_form sort t ≡ good s → is_word (codes "-") t ≡ false
unfolding word_form
not_a_dash sort t s is =
    by_test (is_word (codes "-") t)
    (λ dash_is. absurd (cc (sym (spotted_gives (takes sort (word_of t)) t s is) ∙ ap (takes sort) ((bytes_eq-Decides (word_of t) (codes "-")).0 dash_is) ∙ no_sort_takes_dash sort)))
    (λ none_is. none_is)

words-push : (sort : Sort) (front : List Tree) (t : Tree) → word_forms sort (push front t) ≡ both push (word_forms sort front) (word_form sort t)
words-push sort front t = ap each (map-append (word_form sort) front (t ∷ [])) ∙ each-push (map (word_form sort) front) (word_form sort t)

not_empty : (sort : Sort) (words : List Tree) → has_item (syntax_of (word_forms sort words)) ≡ true → not (length words == 0) ≡ true
not_empty sort [] has = absurd (cc has)
not_empty sort (w ∷ words) has = grind (arith, nat_tests)

some_name : (n : Spot) (names : List Spot) → not (length (n ∷ names) == 0) ≡ true
some_name n names = grind (arith, nat_tests)

has_items : (sort : Sort) (words : List Tree) (names : List Spot) → not (length words == 0) ≡ true → word_forms sort words ≡ good names → has_item (syntax_of (word_forms sort words)) ≡ true
has_items sort [] names some is = absurd (cc some)
has_items sort (w ∷ words) names some is =
    let made = both_give ◌∷◌ (word_form sort w) (word_forms sort words) names is in
    ap (λ (j : Judged (List Spot)). has_item (syntax_of j)) (is ∙ ap good made.whole_is) ∙ some_name made.left made.right

-- ---- a typed list is groups

module _ (sort : Sort) (end : ℕ) where
  abbrev words_of : List Tree → Judged (List Spot)
  words_of words = word_forms sort words

  abbrev step : List Tree → Tree → List Tree → Bool → Judged (List Typed)
  step front t more dash = if dash then behind_dash sort end (in_front_of t (words_of front)) more else behind_items sort end (both push (words_of front) (word_form sort t)) more

  grouped : (front : List Tree) (t u : Tree) (rest : List Tree) (items : List Typed) → is_word (codes "-") t ≡ true
      → ((b : List Typed) → behind_items sort end (good []) rest ≡ good b → IsTypedList sort rest b)
      → behind_dash sort end (in_front_of t (words_of front)) (u ∷ rest) ≡ good items → IsTypedList sort (front ++ t ∷ u ∷ rest) items
  grouped front t u rest items dash more is =
      let whole = both_give ◌++◌ (both all_with_types (in_front_of t (words_of front)) (type_form sort u)) (behind_items sort end (good []) rest) items is in
      let here = both_give all_with_types (in_front_of t (words_of front)) (type_form sort u) whole.left whole.left_is in
      let names = provided_give (has_item (syntax_of (words_of front))) (shape (start_of t)) (words_of front) here.left here.left_is in
      let others = more whole.right whole.right_is in
      record {
        groups = record { words = front; dash = t; type = u } ∷ others.groups;
        last = others.last;
        are_groups = and_from (not (length front == 0) && is_word (codes "-") t) (list_all is_group others.groups) (and_from (not (length front == 0)) (is_word (codes "-") t) (not_empty sort front names.holds) dash) others.are_groups;
        spelled = ap (λ (ts : List Tree). front ++ t ∷ u ∷ ts) others.spelled;
        syntax =
            both_good ◌++◌ (both all_with_types (words_of front) (type_form sort u)) (groups_form sort others.groups others.last) whole.left whole.right
            (both_good all_with_types (words_of front) (type_form sort u) here.left here.right names.is here.right_is ∙ ap good (sym here.whole_is)) others.syntax
            ∙ ap good (sym whole.whole_is);
      }

  one_more : (front : List Tree) (t : Tree) (more : List Tree) (items : List Typed) → IsTypedList sort (push front t ++ more) items → IsTypedList sort (front ++ t ∷ more) items
  one_more front t more items h = subst (λ (ts : List Tree). IsTypedList sort ts items) (append_assoc front (t ∷ []) more) h

  pub groups_found : (trees front : List Tree) (items : List Typed) → behind_items sort end (words_of front) trees ≡ good items → IsTypedList sort (front ++ trees) items
  groups_found [] front items is = record { groups = []; last = front; are_groups = refl; spelled = append-nil front; syntax = is }
  groups_found (t ∷ []) front items is =
      by_test (is_word (codes "-") t)
      (λ dash_is. absurd (besides_give (shape (closing end)) (mapped untyped (in_front_of t (words_of front))) items (sym (ap (step front t []) dash_is) ∙ is)))
      (λ none_is. one_more front t [] items (groups_found [] (push front t) items (ap (λ (j : Judged (List Spot)). behind_items sort end j []) (words-push sort front t) ∙ sym (ap (step front t []) none_is) ∙ is)))
  groups_found (t ∷ u ∷ rest) front items is =
      by_test (is_word (codes "-") t)
      (λ dash_is. grouped front t u rest items dash_is (λ b so. groups_found rest [] b so) (sym (ap (step front t (u ∷ rest)) dash_is) ∙ is))
      (λ none_is. one_more front t (u ∷ rest) items (groups_found (u ∷ rest) (push front t) items (ap (λ (j : Judged (List Spot)). behind_items sort end j (u ∷ rest)) (words-push sort front t) ∙ sym (ap (step front t (u ∷ rest)) none_is) ∙ is)))

  -- ---- groups are a typed list

  over_words : (words front rest : List Tree) (names : List Spot) → words_of words ≡ good names → behind_items sort end (words_of front) (words ++ rest) ≡ behind_items sort end (words_of (front ++ words)) rest
  over_words [] front rest names is = ap (λ (ts : List Tree). behind_items sort end (words_of ts) rest) (sym (append-nil front))
  over_words (w ∷ words) front rest names is =
      let made = both_give ◌∷◌ (word_form sort w) (words_of words) names is in
      ap (step front w (words ++ rest)) (not_a_dash sort w made.left made.left_is)
      ∙ ap (λ (j : Judged (List Spot)). behind_items sort end j (words ++ rest)) (sym (words-push sort front w))
      ∙ over_words words (push front w) rest made.right made.right_is
      ∙ ap (λ (ts : List Tree). behind_items sort end (words_of ts) rest) (append_assoc front (w ∷ []) words)

  groups_read : (groups : List Group) (last : List Tree) (items : List Typed) → list_all is_group groups ≡ true → groups_form sort groups last ≡ good items → behind_items sort end (good []) (trees_of groups last) ≡ good items
  groups_read [] last items are is =
      let names = mapped_gives (words_of last) items is in
      ap (behind_items sort end (good [])) (sym (append-nil last)) ∙ over_words last [] [] names.0 names.1 ∙ is
    where
      mapped_gives : (j : Judged (List Spot)) (items : List Typed) → mapped untyped j ≡ good items → (names : List Spot) × (j ≡ good names)
      mapped_gives (good names) items is = (names, refl)
      mapped_gives (bad f more) items is = absurd (cc is)
  groups_read (g ∷ groups) last items are is =
      let tests = and_parts (is_group g) (list_all is_group groups) are in
      let group = and_parts (not (length g.words == 0)) (is_word (codes "-") g.dash) tests.0 in
      let whole = both_give ◌++◌ (both all_with_types (words_of g.words) (type_form sort g.type)) (groups_form sort groups last) items is in
      let here = both_give all_with_types (words_of g.words) (type_form sort g.type) whole.left whole.left_is in
      let front : in_front_of g.dash (words_of g.words) ≡ words_of g.words =
      ap (λ (b : Bool). provided b (shape (start_of g.dash)) (words_of g.words)) (has_items sort g.words here.left group.0 here.left_is) in
      over_words g.words [] (g.dash ∷ g.type ∷ trees_of groups last) here.left here.left_is
      ∙ ap (step g.words g.dash (g.type ∷ trees_of groups last)) group.1
      ∙ both_good ◌++◌ (both all_with_types (in_front_of g.dash (words_of g.words)) (type_form sort g.type)) (behind_items sort end (good []) (trees_of groups last)) whole.left whole.right
      (both_good all_with_types (in_front_of g.dash (words_of g.words)) (type_form sort g.type) here.left here.right (front ∙ here.left_is) here.right_is ∙ ap good (sym here.whole_is))
      (groups_read groups last whole.right tests.1 whole.right_is)
      ∙ ap good (sym whole.whole_is)

  pub typed_list_is_groups : (trees : List Tree) (items : List Typed) → (typed_list sort end trees ≡ good items) ↔ IsTypedList sort trees items
  unfolding typed_list
  typed_list_is_groups trees items =
      (λ is. groups_found trees [] items is, λ h. ap (behind_items sort end (good [])) h.spelled ∙ groups_read h.groups h.last items h.are_groups h.syntax)
