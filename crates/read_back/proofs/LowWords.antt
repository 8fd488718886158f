-- The words of a text are read in lower case, and so are those of the tree that it spells.
use Rattle.std.proofs.Common.{◌≡◌, inl, inr, ℕ, ◌+◌, ◌<◌, ◌≤◌, Bool, true, false, List, [], ◌∷◌, ◌++◌, refl, sym, ◌∙◌, ap, subst, arith}
use Rattle.std.specs.Prelude.{◌==◌, unwrap_or}
use Rattle.std.specs.Char.{to_ascii_lowercase}
use Rattle.std.specs.List.{list_all, flat_map}
use Rattle.std.proofs.lemmas.Bool.{and_parts, and_from, cases_lt}
use Rattle.std.proofs.lemmas.Bool.Decides.{nat_tests}
use Rattle.std.proofs.lemmas.List.Folds.{list_all-append}
use Rattle.sexpr.specs.declared.bytes.Class.{Class}
use Rattle.sexpr.specs.declared.bytes.Class.TheVariants.{White, Opens, Closes, Semicolon, InWord, Foreign}
use Rattle.sexpr.specs.declared.tree.Tree.{Tree, out-Tree}
use Rattle.sexpr.specs.declared.tree.Tree.TheVariants as tree
use Rattle.sexpr.specs.declared.tree.Tree.TheOpen.{Tree-F}
use Rattle.sexpr.specs.Bytes.{class_of, is_in_word_class, is_in_word}
use Rattle.sexpr.specs.Comments.{bare}
use Rattle.sexpr.specs.Opened.{text_at}
use Rattle.sexpr.specs.Spelling.{tokens_of, Spells}
use Rattle.sexpr.specs.Tokens.{Token, Open, Close, Word, tokens, longer, in_front, begins_word}
use Rattle.sexpr.proofs.Trees.{tokens_of_word, tokens_of_list, cases_tree}
use Rattle.pddl_form.specs.Words.{word_of}
use Rattle.plan_text.proofs.Spelling.{is_low}

-- ---- bytes

abbrev pub are_low : List ℕ → Bool
are_low word = list_all is_low word

small_kept : (b : ℕ) → b < 65 → to_ascii_lowercase b ≡ b
small_kept b small = grind (arith, nat_tests)

large_kept : (b : ℕ) → 91 ≤ b → to_ascii_lowercase b ≡ b
large_kept b large = grind (arith, nat_tests)

upper_moved : (b : ℕ) → 65 ≤ b → b < 91 → to_ascii_lowercase b ≡ b + 32
upper_moved b low high = grind (arith, nat_tests)

same_test : (b : ℕ) → (b == b) ≡ true
same_test b = grind (arith, nat_tests)

letter_low : (b : ℕ) → 97 ≤ b → b ≤ 122 → is_low b ≡ true
letter_low b low high = grind (arith, nat_tests)

kept_low : (b : ℕ) → is_in_word b ≡ true → to_ascii_lowercase b ≡ b → is_low (to_ascii_lowercase b) ≡ true
kept_low b is same = ap is_low same ∙ and_from (is_in_word b) (to_ascii_lowercase b == b) is (ap (λ (c : ℕ). c == b) same ∙ same_test b)

lower_low : (b : ℕ) → is_in_word b ≡ true → is_low (to_ascii_lowercase b) ≡ true
lower_low b is = elim (cases_lt b 65) [
  | inl small ↦ kept_low b is (small_kept b small)
  | inr low ↦ elim (cases_lt b 91) [
    | inl high ↦ ap is_low (upper_moved b low high) ∙ letter_low (b + 32) (omega (arith, low)) (omega (arith, high))
    | inr large ↦ kept_low b is (large_kept b large)
  ]
]

-- ---- tokens

abbrev is_low_token : Token → Bool
is_low_token (Open at) = true
is_low_token (Close end) = true
is_low_token (Word start end text) = are_low text

longer_low : (at b : ℕ) (ts : List Token) → is_low (to_ascii_lowercase b) ≡ true → list_all is_low_token ts ≡ true → list_all is_low_token (longer at b ts) ≡ true
longer_low at b [] low all = refl
longer_low at b (Open place ∷ ts) low all = all
longer_low at b (Close place ∷ ts) low all = all
longer_low at b (Word start end text ∷ ts) low all =
    let parts = and_parts (are_low text) (list_all is_low_token ts) all in
    and_from (are_low (to_ascii_lowercase b ∷ text)) (list_all is_low_token ts) (and_from (is_low (to_ascii_lowercase b)) (are_low text) low parts.0) parts.1

front_low : (at b : ℕ) (k : Class) (word : Bool) (ts : List Token) → (k ≡ InWord → is_low (to_ascii_lowercase b) ≡ true) → list_all is_low_token ts ≡ true → list_all is_low_token (in_front at b k word ts) ≡ true
front_low at b White word ts low all = all
front_low at b Opens word ts low all = all
front_low at b Closes word ts low all = all
front_low at b Semicolon word ts low all = all
front_low at b InWord true ts low all = longer_low at b ts (low refl) all
front_low at b InWord false ts low all =
    and_from (are_low (to_ascii_lowercase b ∷ [])) (list_all is_low_token ts) (and_from (is_low (to_ascii_lowercase b)) true (low refl) refl) all
front_low at b Foreign word ts low all = all

tokens_low : (at : ℕ) (bytes : List ℕ) → list_all is_low_token (tokens at bytes) ≡ true
tokens_low at [] = refl
tokens_low at (b ∷ bytes) = front_low at b (class_of b) (begins_word bytes) (tokens (at + 1) bytes) (λ is. lower_low b (ap is_in_word_class is)) (tokens_low (at + 1) bytes)

-- ---- trees

-- each word of a tree is in lower case
abbrev pub is_worded : Tree → Bool
is_worded t = list_all is_low_token (tokens_of t)

abbrev pub are_worded : List Tree → Bool
are_worded trees = list_all is_worded trees

pub text_worded : (bytes : List ℕ) (t : Tree) → Spells bytes t → is_worded t ≡ true
text_worded bytes t spells = ap (list_all is_low_token) (sym spells.spelled) ∙ tokens_low 0 (bare bytes)

-- one level of such a tree
abbrev pub IsWordedAt : Tree-F Tree → Type 0
IsWordedAt (Tree-F.Word start end text) = are_low text ≡ true
IsWordedAt (Tree-F.List start end items) = are_worded items ≡ true

items_worded : (items : List Tree) → list_all is_low_token (flat_map tokens_of items) ≡ true → are_worded items ≡ true
items_worded [] all = refl
items_worded (t ∷ items) all =
    let parts = and_parts (is_worded t) (list_all is_low_token (flat_map tokens_of items)) (sym (list_all-append is_low_token (tokens_of t) (flat_map tokens_of items)) ∙ all) in
    and_from (is_worded t) (are_worded items) parts.0 (items_worded items parts.1)

word_part : (start end : ℕ) (text : List ℕ) → is_worded (tree.Word start end text) ≡ true → are_low text ≡ true
word_part start end text all = (and_parts (are_low text) true (sym (ap (list_all is_low_token) (tokens_of_word start end text)) ∙ all)).0

list_part : (start end : ℕ) (items : List Tree) → is_worded (tree.List start end items) ≡ true → are_worded items ≡ true
list_part start end items all =
    let inside : list_all is_low_token (flat_map tokens_of items ++ Close end ∷ []) ≡ true = sym (ap (list_all is_low_token) (tokens_of_list start end items)) ∙ all in
    items_worded items
    (and_parts (list_all is_low_token (flat_map tokens_of items)) (list_all is_low_token (Close end ∷ [])) (sym (list_all-append is_low_token (flat_map tokens_of items) (Close end ∷ [])) ∙ inside)).0

pub opened_worded : (t : Tree) → is_worded t ≡ true → IsWordedAt (out-Tree t)
opened_worded =
    cases_tree (λ t. is_worded t ≡ true → IsWordedAt (out-Tree t))
    (λ start end text all. subst IsWordedAt (sym (tree.outs-Word start end text)) (word_part start end text all))
    (λ start end items all. subst IsWordedAt (sym (tree.outs-List start end items)) (list_part start end items all))

text_low : (opened : Tree-F Tree) → IsWordedAt opened → are_low (unwrap_or (text_at opened) []) ≡ true
text_low (Tree-F.Word start end text) low = low
text_low (Tree-F.List start end items) all = refl

pub word_low : (t : Tree) → is_worded t ≡ true → are_low (word_of t) ≡ true
unfolding word_of
word_low t all = text_low (out-Tree t) (opened_worded t all)
