-- What the forms of words, symbols with arguments and typed lists give is of the grammar.
use Rattle.std.proofs.Common.{◌≡◌, ℕ, Bool, true, false, List, [], ◌∷◌, ◌++◌, length, map, refl, ◌∙◌}
use Rattle.std.specs.Prelude.{codes, ◌&&◌, ◌==◌}
use Rattle.std.specs.List.{list_all}
use Rattle.std.proofs.lemmas.Bool.{and_parts, and_from}
use Rattle.std.proofs.lemmas.List.Folds.{list_all-append}
use Rattle.sexpr.specs.declared.tree.Tree.{Tree, out-Tree}
use Rattle.sexpr.specs.declared.tree.Tree.TheOpen.{Tree-F}
use Rattle.sexpr.specs.Opened.{start_of}
use Rattle.pddl_form.specs.declared.calls.Call.{Call}
use Rattle.pddl_form.specs.declared.names.Sort.{Sort}
use Rattle.pddl_form.specs.declared.names.Sort.TheVariants.{Name, Variable, Term, Keyword}
use Rattle.pddl_form.specs.declared.spot.Spot.{Spot}
use Rattle.pddl_form.specs.Faults.{shape}
use Rattle.pddl_form.specs.Judged.{Judged, good, each, both, closing, mapped, misshapen}
use Rattle.pddl_form.specs.Gather.{push}
use Rattle.pddl_form.specs.Names.{takes, is_symbol}
use Rattle.pddl_form.specs.Words.{word_of, spot_of, is_word, spotted, word_form, word_forms}
use Rattle.pddl_form.specs.Calls.{called, arguments, call_at, call_form}
use Rattle.pddl_form.specs.Parts.{one_part, two_parts, pair}
use Rattle.pddl_form.specs.Typed.{either_form, type_at, type_form, only, all_with_types, untyped, in_front_of, has_item, behind_items, behind_dash, typed_list}
use Rattle.pddl_form.specs.Judged.{syntax_of, lacking}
use Rattle.pddl_form.specs.Grammar.{is_of, is_call, may_have, are_types, is_typed}
use Rattle.pddl_form.specs.Sections.{title_at, title_form}
use Rattle.pddl_form.proofs.Giving.{Gives, gives-mapped, gives-both, gives-besides, gives-provided, gives-if, gives-each}

-- ---- words and symbols with arguments

spotted_gives : (sort : Sort) (tree : Tree) (b : Bool) → b ≡ takes sort (word_of tree) → Gives (is_of sort) (spotted b tree)
spotted_gives sort tree true is = cc is
spotted_gives sort tree false is = tt

pub word_gives : (sort : Sort) (tree : Tree) → Gives (is_of sort) (word_form sort tree)
unfolding word_form
word_gives sort tree = spotted_gives sort tree (takes sort (word_of tree)) refl

pub words_give : (sort : Sort) (trees : List Tree) → Gives (list_all (is_of sort)) (word_forms sort trees)
words_give sort trees = gives-each (word_form sort) (is_of sort) (word_gives sort) trees

abbrev pub is_call_of : Sort → Call → Bool
is_call_of sort call = is_call sort call.name call.args

pub arguments_give : (sort : Sort) (head : Tree) (args : List Tree) → is_symbol (word_of head) ≡ true → Gives (is_call_of sort) (arguments sort head args)
unfolding arguments
arguments_give sort head args symbol =
    gives-mapped (called (spot_of head)) (list_all (is_of sort)) (is_call_of sort) (word_forms sort args) (λ spots h. and_from (is_symbol (word_of head)) (list_all (is_of sort) spots) symbol h) (words_give sort args)

call_at_gives : (sort : Sort) (opened : Tree-F Tree) → Gives (is_call_of sort) (call_at sort opened)
call_at_gives sort (Tree-F.Word start end text) = tt
call_at_gives sort (Tree-F.List start end []) = tt
call_at_gives sort (Tree-F.List start end (head ∷ args)) =
    gives-if (is_call_of sort) (is_symbol (word_of head)) (arguments sort head args) (misshapen start) (arguments_give sort head args) (λ no. tt)

pub call_gives : (sort : Sort) (tree : Tree) → Gives (is_call_of sort) (call_form sort tree)
unfolding call_form
call_gives sort tree = call_at_gives sort (out-Tree tree)

-- ---- lists of a fixed number of parts

pub one_gives : {A : Type 0} (form : Tree → Judged A) (p : A → Bool) → ((t : Tree) → Gives p (form t)) → (start end : ℕ) (parts : List Tree) → Gives p (one_part form start end parts)
unfolding one_part
one_gives form p so start end [] = tt
one_gives form p so start end (t ∷ more) = gives-provided p (length more == 0) (shape start) (form t) (so t)

pub two_give : {A B : Type 0} (first : Tree → Judged A) (second : Tree → Judged B) (p : A → Bool) (q : B → Bool)
    → ((t : Tree) → Gives p (first t)) → ((t : Tree) → Gives q (second t)) → (start end : ℕ) (parts : List Tree) → Gives (λ both. p both.0 && q both.1) (two_parts first second start end parts)
unfolding two_parts
two_give first second p q so also start end [] = tt
two_give first second p q so also start end (t ∷ []) = gives-both pair p q (λ both. p both.0 && q both.1) (first t) (lacking end) (λ a b h k. and_from (p a) (q b) h k) (so t) tt
two_give first second p q so also start end (t ∷ u ∷ more) =
    gives-provided (λ both. p both.0 && q both.1) (length more == 0) (shape start) (both pair (first t) (second u))
    (gives-both pair p q (λ both. p both.0 && q both.1) (first t) (second u) (λ a b h k. and_from (p a) (q b) h k) (so t) (also u))

-- ---- typed lists

may_have_none : (sort : Sort) → may_have sort 0 ≡ true
may_have_none Variable = refl
may_have_none Name = refl
may_have_none Term = refl
may_have_none Keyword = refl

may_have_one : (sort : Sort) → may_have sort 1 ≡ true
may_have_one Variable = refl
may_have_one Name = refl
may_have_one Term = refl
may_have_one Keyword = refl

either_gives : (sort : Sort) (head : Tree) (end : ℕ) (names : List Tree) → Gives (are_types sort) (either_form sort head end names)
either_gives Variable head end names = gives-provided (list_all (is_of Name)) _ (shape (closing end)) (each (map (word_form Name) names)) (words_give Name names)
either_gives Name head end names = tt
either_gives Term head end names = tt
either_gives Keyword head end names = tt

type_at_gives : (sort : Sort) (tree : Tree) (opened : Tree-F Tree) → Gives (are_types sort) (type_at sort tree opened)
type_at_gives sort tree (Tree-F.Word start end text) =
    gives-mapped only (is_of Name) (are_types sort) (word_form Name tree) (λ spot h. and_from (may_have sort 1) (list_all (is_of Name) (only spot)) (may_have_one sort) (and_from (is_of Name spot) true h refl)) (word_gives Name tree)
type_at_gives sort tree (Tree-F.List start end []) = tt
type_at_gives sort tree (Tree-F.List start end (head ∷ names)) =
    gives-if (are_types sort) (is_word (codes "either") head) (either_form sort head end names) (misshapen start) (λ is. either_gives sort head end names) (λ no. tt)

type_gives : (sort : Sort) (tree : Tree) → Gives (are_types sort) (type_form sort tree)
unfolding type_form
type_gives sort tree = type_at_gives sort tree (out-Tree tree)

all_typed : (sort : Sort) (names types : List Spot) → list_all (is_of sort) names ≡ true → are_types sort types ≡ true → list_all (is_typed sort) (all_with_types names types) ≡ true
all_typed sort [] types h k = refl
all_typed sort (name ∷ names) types h k =
    let parts = and_parts (is_of sort name) (list_all (is_of sort) names) h in
    and_from (is_of sort name && are_types sort types) (list_all (is_typed sort) (all_with_types names types)) (and_from (is_of sort name) (are_types sort types) parts.0 k) (all_typed sort names types parts.1 k)

no_types : (sort : Sort) → are_types sort [] ≡ true
no_types sort = and_from (may_have sort 0) true (may_have_none sort) refl

pushed_all : {A : Type 0} (p : A → Bool) (xs : List A) (x : A) → list_all p xs ≡ true → p x ≡ true → list_all p (push xs x) ≡ true
pushed_all p xs x h k = list_all-append p xs (x ∷ []) ∙ and_from (list_all p xs) (list_all p (x ∷ [])) h (and_from (p x) true k refl)

pub appended_all : {A : Type 0} (p : A → Bool) (xs ys : List A) → list_all p xs ≡ true → list_all p ys ≡ true → list_all p (xs ++ ys) ≡ true
appended_all p xs ys h k = list_all-append p xs ys ∙ and_from (list_all p xs) (list_all p ys) h k

mutual
  behind_items_give : (sort : Sort) (end : ℕ) (items : Judged (List Spot)) (trees : List Tree) → Gives (list_all (is_of sort)) items → Gives (list_all (is_typed sort)) (behind_items sort end items trees)
  behind_items_give sort end items [] h = gives-mapped untyped (list_all (is_of sort)) (list_all (is_typed sort)) items (λ names all. all_typed sort names [] all (no_types sort)) h
  behind_items_give sort end items (t ∷ more) h =
      gives-if (list_all (is_typed sort)) (is_word (codes "-") t) (behind_dash sort end (in_front_of t items) more) (behind_items sort end (both push items (word_form sort t)) more)
      (λ is. behind_dash_gives sort end (in_front_of t items) more (gives-provided (list_all (is_of sort)) (has_item (syntax_of items)) (shape (start_of t)) items h))
      (λ no. behind_items_give sort end (both push items (word_form sort t)) more (gives-both push (list_all (is_of sort)) (is_of sort) (list_all (is_of sort)) items (word_form sort t) (λ xs x all one. pushed_all (is_of sort) xs x all one) h (word_gives sort t)))

  behind_dash_gives : (sort : Sort) (end : ℕ) (items : Judged (List Spot)) (trees : List Tree) → Gives (list_all (is_of sort)) items → Gives (list_all (is_typed sort)) (behind_dash sort end items trees)
  behind_dash_gives sort end items [] h = gives-besides (list_all (is_typed sort)) (shape (closing end)) (mapped untyped items)
  behind_dash_gives sort end items (t ∷ more) h =
      gives-both ◌++◌ (list_all (is_typed sort)) (list_all (is_typed sort)) (list_all (is_typed sort)) (both all_with_types items (type_form sort t)) (behind_items sort end (good []) more)
      (appended_all (is_typed sort))
      (gives-both all_with_types (list_all (is_of sort)) (are_types sort) (list_all (is_typed sort)) items (type_form sort t) (all_typed sort) h (type_gives sort t))
      (behind_items_give sort end (good []) more refl)

pub typed_list_gives : (sort : Sort) (end : ℕ) (trees : List Tree) → Gives (list_all (is_typed sort)) (typed_list sort end trees)
unfolding typed_list
typed_list_gives sort end trees = behind_items_give sort end (good []) trees refl

-- ---- titles

title_at_gives : (kind : List ℕ) (opened : Tree-F Tree) → Gives (is_of Name) (title_at kind opened)
title_at_gives kind (Tree-F.Word start end text) = tt
title_at_gives kind (Tree-F.List start end []) = tt
title_at_gives kind (Tree-F.List start end (head ∷ parts)) =
    gives-if (is_of Name) (is_word kind head) (one_part (word_form Name) start end parts) (misshapen start) (λ is. one_gives (word_form Name) (is_of Name) (word_gives Name) start end parts) (λ no. tt)

pub title_gives : (kind : List ℕ) (tree : Tree) → Gives (is_of Name) (title_form kind tree)
unfolding title_form
title_gives kind tree = title_at_gives kind (out-Tree tree)
