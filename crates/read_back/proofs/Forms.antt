-- Where the words of a tree are in lower case, the names that words, typed lists and sections give are spelled as in texts.
use Rattle.std.proofs.Common.{◌≡◌, ℕ, Bool, true, false, List, [], ◌∷◌, ◌++◌, map, refl, ◌∙◌}
use Rattle.std.specs.Prelude.{codes, if◌then◌else◌, Option, Some, None}
use Rattle.std.specs.List.{list_all, cons_option}
use Rattle.std.proofs.lemmas.Bool.{and_parts, and_from}
use Rattle.std.proofs.lemmas.List.Folds.{list_all-map}
use Rattle.sexpr.specs.declared.tree.Tree.{Tree, out-Tree}
use Rattle.sexpr.specs.declared.tree.Tree.TheOpen.{Tree-F}
use Rattle.sexpr.specs.Opened.{start_of}
use Rattle.pddl_form.specs.declared.names.Sort.TheVariants.{Name}
use Rattle.pddl_form.specs.declared.spot.Spot.{Spot}
use Rattle.pddl_form.specs.declared.typed.Typed.{Typed}
use Rattle.pddl_form.specs.Faults.{shape}
use Rattle.pddl_form.specs.Gather.{push}
use Rattle.pddl_form.specs.Judged.{Judged, good, bad, syntax_of, misshapen, closing, mapped, both, each}
use Rattle.pddl_form.specs.Names.{is_name}
use Rattle.pddl_form.specs.Sections.{Contents, Definition, contents_at, contents_behind, or_next, section_with, sections_with, contents_or, definition_parts, definition_at, definition_form, and_then}
use Rattle.pddl_form.specs.Typed.{type_form, with_types, all_with_types, untyped, has_item, in_front_of, behind_items, behind_dash, typed_list}
use Rattle.pddl_form.specs.Words.{word_of, is_word, spot_of, word_form}
use Rattle.pddl_form.proofs.Giving.{Gives, gives-any, gives-mapped, gives-both, gives-besides, gives-provided, gives-if}
use Rattle.pddl_form.proofs.Grammar.{appended_all}
use Rattle.plan_text.specs.Laws.{is_spelled}
use Rattle.read_back.proofs.LowWords.{are_low, is_worded, are_worded, IsWordedAt, opened_worded, word_low}

-- ---- names

abbrev pub is_named : Spot → Bool
is_named spot = is_spelled spot.text

pub name_gives : (t : Tree) → is_worded t ≡ true → Gives is_named (word_form Name t)
unfolding word_form
name_gives t all =
    gives-if is_named (is_name (word_of t)) (good (spot_of t)) (misshapen (start_of t)) (λ name. and_from (is_name (word_of t)) (are_low (word_of t)) name (word_low t all)) (λ no. tt)

-- ---- typed lists of names

abbrev pub is_named_item : Typed → Bool
is_named_item item = is_named item.name

all_named : (names types : List Spot) → list_all is_named names ≡ true → list_all is_named_item (all_with_types names types) ≡ true
all_named names types all = list_all-map is_named_item (with_types types) names ∙ all

mutual
  items_give : (end : ℕ) (items : Judged (List Spot)) (trees : List Tree) → are_worded trees ≡ true → Gives (list_all is_named) items → Gives (list_all is_named_item) (behind_items Name end items trees)
  items_give end items [] all h = gives-mapped untyped (list_all is_named) (list_all is_named_item) items (λ names named. all_named names [] named) h
  items_give end items (t ∷ more) all h =
      let parts = and_parts (is_worded t) (are_worded more) all in
      gives-if (list_all is_named_item) (is_word (codes "-") t) (behind_dash Name end (in_front_of t items) more) (behind_items Name end (both push items (word_form Name t)) more)
      (λ is. dash_gives end (in_front_of t items) more parts.1 (gives-provided (list_all is_named) (has_item (syntax_of items)) (shape (start_of t)) items h))
      (λ no. items_give end (both push items (word_form Name t)) more parts.1
      (gives-both push (list_all is_named) is_named (list_all is_named) items (word_form Name t) (λ xs x named one. appended_all is_named xs (x ∷ []) named (and_from (is_named x) true one refl)) h (name_gives t parts.0)))

  dash_gives : (end : ℕ) (items : Judged (List Spot)) (trees : List Tree) → are_worded trees ≡ true → Gives (list_all is_named) items → Gives (list_all is_named_item) (behind_dash Name end items trees)
  dash_gives end items [] all h = gives-besides (list_all is_named_item) (shape (closing end)) (mapped untyped items)
  dash_gives end items (t ∷ more) all h =
      gives-both ◌++◌ (list_all is_named_item) (list_all is_named_item) (list_all is_named_item) (both all_with_types items (type_form Name t)) (behind_items Name end (good []) more)
      (appended_all is_named_item)
      (gives-both all_with_types (list_all is_named) (λ types. true) (list_all is_named_item) items (type_form Name t) (λ names types named any. all_named names types named) h (gives-any (type_form Name t)))
      (items_give end (good []) more (and_parts (is_worded t) (are_worded more) all).1 refl)

pub typed_gives : (end : ℕ) (trees : List Tree) → are_worded trees ≡ true → Gives (list_all is_named_item) (typed_list Name end trees)
unfolding typed_list
typed_gives end trees all = items_give end (good []) trees all refl

-- ---- sections

abbrev pub has_words : Contents → Bool
has_words c = are_worded c.parts

abbrev pub HasWords : Option Contents → Type 0
HasWords None = Unit {0}
HasWords (Some c) = has_words c ≡ true

found_if : (b : Bool) (c : Contents) → has_words c ≡ true → HasWords (if b then Some c else None)
found_if true c all = all
found_if false c all = tt

contents_worded : (word : List ℕ) (opened : Tree-F Tree) → IsWordedAt opened → HasWords (contents_at word opened)
contents_worded word (Tree-F.Word start end text) low = tt
contents_worded word (Tree-F.List start end []) all = tt
contents_worded word (Tree-F.List start end (head ∷ parts)) all = found_if (is_word word head) (record { start = start; end = end; parts = parts }) (and_parts (is_worded head) (are_worded parts) all).1

behind_worded : (word : List ℕ) (t : Tree) → is_worded t ≡ true → HasWords (contents_behind word t)
unfolding contents_behind
behind_worded word t all = contents_worded word (out-Tree t) (opened_worded t all)

next_worded : (found next : Option Contents) → HasWords found → HasWords next → HasWords (or_next found next)
next_worded None next h k = k
next_worded (Some c) next h k = h

pub section_worded : (word : List ℕ) (sections : List Tree) → are_worded sections ≡ true → HasWords (section_with word sections)
section_worded word [] all = tt
section_worded word (t ∷ more) all =
    let parts = and_parts (is_worded t) (are_worded more) all in
    next_worded (contents_behind word t) (section_with word more) (behind_worded word t parts.0) (section_worded word more parts.1)

cons_worded : (found : Option Contents) (rest : List Contents) → HasWords found → list_all has_words rest ≡ true → list_all has_words (cons_option found rest) ≡ true
cons_worded None rest h k = k
cons_worded (Some c) rest h k = and_from (has_words c) (list_all has_words rest) h k

pub sections_worded : (word : List ℕ) (sections : List Tree) → are_worded sections ≡ true → list_all has_words (sections_with word sections) ≡ true
sections_worded word [] all = refl
sections_worded word (t ∷ more) all =
    let parts = and_parts (is_worded t) (are_worded more) all in
    cons_worded (contents_behind word t) (sections_with word more) (behind_worded word t parts.0) (sections_worded word more parts.1)

pub section_gives : {A : Type 0} (p : A → Bool) (without : Judged A) (form : Contents → Judged A) (found : Option Contents)
    → HasWords found → Gives p without → ((c : Contents) → has_words c ≡ true → Gives p (form c)) → Gives p (contents_or without form found)
section_gives p without form None all h so = h
section_gives p without form (Some c) all h so = so c all

-- ---- parts and whole texts

pub all_give : {X A : Type 0} (form : X → Judged A) (test : X → Bool) (p : A → Bool) → ((x : X) → test x ≡ true → Gives p (form x)) → (xs : List X) → list_all test xs ≡ true → Gives (list_all p) (each (map form xs))
all_give form test p so [] all = refl
all_give form test p so (x ∷ xs) all =
    let parts = and_parts (test x) (list_all test xs) all in
    gives-both ◌∷◌ p (list_all p) (list_all p) (form x) (each (map form xs)) (λ a rest h k. and_from (p a) (list_all p rest) h k) (so x parts.0) (all_give form test p so xs parts.1)

pub then_gives : {A B : Type 0} (p : A → Bool) (q : B → Bool) (j : Judged A) (form : A → Judged B) → Gives p j → ((a : A) → p a ≡ true → Gives q (form a)) → Gives q (and_then j form)
then_gives p q (good a) form h so = so a h
then_gives p q (bad f more) form h so = tt

abbrev pub has_worded_sections : Definition → Bool
has_worded_sections d = are_worded d.sections

parts_give : (end : ℕ) (trees : List Tree) → are_worded trees ≡ true → Gives has_worded_sections (definition_parts end trees)
parts_give end [] all = tt
parts_give end (title ∷ sections) all = (and_parts (is_worded title) (are_worded sections) all).1

definition_at_gives : (opened : Tree-F Tree) → IsWordedAt opened → Gives has_worded_sections (definition_at opened)
definition_at_gives (Tree-F.Word start end text) low = tt
definition_at_gives (Tree-F.List start end []) all = tt
definition_at_gives (Tree-F.List start end (head ∷ parts)) all =
    gives-if has_worded_sections (is_word (codes "define") head) (definition_parts end parts) (misshapen start) (λ is. parts_give end parts (and_parts (is_worded head) (are_worded parts) all).1) (λ no. tt)

pub definition_gives : (t : Tree) → is_worded t ≡ true → Gives has_worded_sections (definition_form t)
unfolding definition_form
definition_gives t all = definition_at_gives (out-Tree t) (opened_worded t all)
