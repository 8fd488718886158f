-- The words and parentheses of a text stand in order, and so a tree's spans nest.
use Rattle.std.proofs.Common.{◌≡◌, ℕ, ◌+◌, ◌-◌, ◌<◌, ◌≤◌, Bool, true, false, List, [], ◌∷◌, ◌++◌, map, length, refl, sym, ◌∙◌, subst, arith, append_assoc}
use Rattle.std.specs.Prelude.{◌&&◌, nat_lt, IsTrue}
use Rattle.std.specs.List.{flat_map, list_all}
use Rattle.std.proofs.lemmas.Bool.Decides.{nat_tests}
use Rattle.std.proofs.lemmas.List.{append-nil}
use Rattle.sexpr.specs.declared.bytes.Class.{Class}
use Rattle.sexpr.specs.declared.bytes.Class.TheVariants.{White, Opens, Closes, Semicolon, InWord, Foreign}
use Rattle.sexpr.specs.declared.tree.Tree.{Tree}
use Rattle.sexpr.specs.declared.tree.Tree.TheVariants as tree
use Rattle.sexpr.specs.Bytes.{class_of}
use Rattle.sexpr.specs.Comments.{bare}
use Rattle.sexpr.specs.Tokens.{Token, Open, Close, Word, tokens, in_front, longer, begins_word}
use Rattle.sexpr.specs.Spelling.{tokens_of, Spells}
use Rattle.sexpr.specs.Spans.{lists_rise, lies_in, is_between}
use Rattle.sexpr.proofs.BareLaws.{length-bare_from}
use Rattle.sexpr.proofs.Trees.{every_tree, cases_tree, lists_rise_word, lists_rise_list, lies_in_word, lies_in_list}
use Rattle.sexpr.proofs.Unique.{word_front, list_front}

-- from one place to another, each behind the one before
abbrev InOrder : ℕ → ℕ → List Token → Type 0
InOrder low high [] = low ≤ high
InOrder low high (Open at ∷ ts) = (low ≤ at) × InOrder (at + 1) high ts
InOrder low high (Close end ∷ ts) = (low < end) × InOrder end high ts
InOrder low high (Word start end text ∷ ts) = (low ≤ start) × (start < end) × InOrder end high ts

earlier : (low from high : ℕ) (ts : List Token) → low ≤ from → InOrder from high ts → InOrder low high ts
earlier low from high [] less order = omega (arith, less, order)
earlier low from high (Open at ∷ ts) less order = (omega (arith, less, order.0), order.1)
earlier low from high (Close end ∷ ts) less order = (omega (arith, less, order.0), order.1)
earlier low from high (Word start end text ∷ ts) less order = (omega (arith, less, order.0), order.1, order.2)

longer_order : (at b high : ℕ) (rest : List Token) → InOrder (at + 1) high rest → InOrder at high (longer at b rest)
longer_order at b high [] order = omega (arith, order)
longer_order at b high (Open from ∷ ts) order = (omega (arith, order.0), order.1)
longer_order at b high (Close end ∷ ts) order = (omega (arith, order.0), order.1)
longer_order at b high (Word start end text ∷ ts) order = (omega arith, omega (arith, order.0, order.1), order.2)

front_order : (at b high : ℕ) (k : Class) (word : Bool) (rest : List Token) → InOrder (at + 1) high rest → InOrder at high (in_front at b k word rest)
front_order at b high White word rest order = earlier at (at + 1) high rest (omega arith) order
front_order at b high Opens word rest order = (omega arith, order)
front_order at b high Closes word rest order = (omega arith, order)
front_order at b high Semicolon word rest order = earlier at (at + 1) high rest (omega arith) order
front_order at b high InWord true rest order = longer_order at b high rest order
front_order at b high InWord false rest order = (omega arith, omega arith, order)
front_order at b high Foreign word rest order = earlier at (at + 1) high rest (omega arith) order

text_order : (at : ℕ) (bytes : List ℕ) → InOrder at (at + length bytes) (tokens at bytes)
text_order at [] = omega arith
text_order at (b ∷ bytes) =
    let place : at + 1 + length bytes ≡ at + length (b ∷ bytes) = omega arith in
    front_order at b (at + length (b ∷ bytes)) (class_of b) (begins_word bytes) (tokens (at + 1) bytes) (subst (λ (n : ℕ). InOrder (at + 1) n (tokens (at + 1) bytes)) place (text_order (at + 1) bytes))

both : (a b : Bool) → a ≡ true → b ≡ true → (a && b) ≡ true
both true b is also = also
both false b is also = absurd (cc is)

first : (a b : Bool) → (a && b) ≡ true → a ≡ true
first true b is = refl
first false b is = is

second : (a b : Bool) → (a && b) ≡ true → b ≡ true
second true b is = is
second false b is = absurd (cc is)

between : (low start end high : ℕ) → low ≤ start → start < end → end ≤ high → is_between low start end high ≡ true
between low start end high a b c = grind (arith, nat_tests)

between_wider : (low from start end to high : ℕ) → low ≤ from → to ≤ high → is_between from start end to ≡ true → is_between low start end high ≡ true
between_wider low from start end to high a b is = grind (arith, nat_tests)

-- a tree that lies between two places lies between wider ones
wider : (low from to high : ℕ) → low ≤ from → to ≤ high → (t : Tree) → lies_in t from to ≡ true → lies_in t low high ≡ true
wider low from to high below above = cases_tree (λ t. lies_in t from to ≡ true → lies_in t low high ≡ true)
    (λ start end text lies. lies_in_word start end text low high ∙ between_wider low from start end to high below above (sym (lies_in_word start end text from to) ∙ lies))
    (λ start end items lies.
    let parts = sym (lies_in_list start end items from to) ∙ lies in
    lies_in_list start end items low high
    ∙ both _ _ (between_wider low from start end to high below above (first _ _ parts)) (second (is_between from start end to) _ parts))

all_wider : (low from to high : ℕ) → low ≤ from → to ≤ high → (items : List Tree) → list_all (λ t. lies_in t from to) items ≡ true → list_all (λ t. lies_in t low high) items ≡ true
all_wider low from to high below above [] lie = refl
all_wider low from to high below above (t ∷ items) lie =
    both _ _ (wider low from to high below above t (first _ _ lie)) (all_wider low from to high below above items (second (lies_in t from to) _ lie))

-- a tree lies up to a place, and the rest is in order from there
record LiesTo (t : Tree) (low high : ℕ) (rest : List Token) : Type 0 where
  to : ℕ
  above : low ≤ to
  lies : lies_in t low to ≡ true
  after : InOrder to high rest

abbrev IsPlaced : Tree → Type 0
IsPlaced t = (low high : ℕ) (rest : List Token) → InOrder low high (tokens_of t ++ rest) → LiesTo t low high rest

record AllLieTo (items : List Tree) (low high : ℕ) (rest : List Token) : Type 0 where
  to : ℕ
  above : low ≤ to
  lie : list_all (λ t. lies_in t low to) items ≡ true
  after : InOrder to high rest

abbrev Several : Type 0
Several = List ((t : Tree) × IsPlaced t)

abbrev trees : Several → List Tree
trees items = map (λ e. e.0) items

several_placed : (items : Several) (low high : ℕ) (rest : List Token) → InOrder low high (flat_map tokens_of (trees items) ++ rest) → AllLieTo (trees items) low high rest
several_placed [] low high rest order = record { to = low; above = omega arith; lie = refl; after = order }
several_placed (e ∷ items) low high rest order =
    let one = e.1 low high (flat_map tokens_of (trees items) ++ rest) (subst (InOrder low high) (append_assoc (tokens_of e.0) (flat_map tokens_of (trees items)) rest) order) in
    let more = several_placed items one.to high rest one.after in
    record {
      to = more.to;
      above = omega (arith, one.above, more.above);
      lie = both _ _ (wider low low one.to more.to (omega arith) more.above e.0 one.lies) (all_wider low one.to more.to more.to one.above (omega arith) (trees items) more.lie);
      after = more.after;
    }

word_placed : (start end : ℕ) (text : List ℕ) → IsPlaced (tree.Word start end text)
word_placed start end text low high rest order =
    let parts : InOrder low high (Word start end text ∷ rest) = subst (InOrder low high) (word_front start end text rest) order in
    record {
      to = end;
      above = omega (arith, parts.0, parts.1);
      lies = lies_in_word start end text low end ∙ between low start end end parts.0 parts.1 (omega arith);
      after = parts.2;
    }

list_placed : (start end : ℕ) (items : Several) → IsPlaced (tree.List start end (trees items))
list_placed start end items low high rest order =
    let parts : InOrder low high (Open start ∷ (flat_map tokens_of (trees items) ++ (Close end ∷ rest))) = subst (InOrder low high) (list_front start end (trees items) rest) order in
    let inner = several_placed items (start + 1) high (Close end ∷ rest) parts.1 in
    let closed : (inner.to < end) × InOrder end high rest = inner.after in
    record {
      to = end;
      above = omega (arith, parts.0, inner.above, closed.0);
      lies = lies_in_list start end (trees items) low end
          ∙ both _ _ (between low start end end parts.0 (omega (arith, inner.above, closed.0)) (omega arith))
          (all_wider (start + 1) (start + 1) inner.to (end - 1) (omega arith) (omega (arith, closed.0)) (trees items) inner.lie);
      after = closed.1;
    }

every_placed : (t : Tree) → IsPlaced t
every_placed = every_tree IsPlaced word_placed list_placed

-- a tree that a text spells lies within the text
pub lies_in_text : (bytes : List ℕ) (t : Tree) → Spells bytes t → IsTrue (lies_in t 0 (length bytes))
lies_in_text bytes t text =
    let order : InOrder 0 (length (bare bytes)) (tokens_of t ++ []) =
    subst (λ (n : ℕ). InOrder 0 n (tokens_of t ++ [])) (omega arith) (subst (InOrder 0 (0 + length (bare bytes))) (text.spelled ∙ sym (append-nil (tokens_of t))) (text_order 0 (bare bytes))) in
    let placed = every_placed t 0 (length (bare bytes)) [] order in
    let end : placed.to ≤ length (bare bytes) = placed.after in
    wider 0 0 placed.to (length bytes) (omega arith) (omega (arith, end, length-bare_from false bytes)) t placed.lies

abbrev Rises : Tree → Type 0
Rises t = (low high : ℕ) → lies_in t low high ≡ true → lists_rise t ≡ true

all_rise : (low high : ℕ) (items : List ((t : Tree) × Rises t)) → list_all (λ t. lies_in t low high) (map (λ e. e.0) items) ≡ true → list_all lists_rise (map (λ e. e.0) items) ≡ true
all_rise low high [] lie = refl
all_rise low high (e ∷ items) lie = both _ _ (e.1 low high (first _ _ lie)) (all_rise low high items (second (lies_in e.0 low high) _ lie))

rises : (low start end high : ℕ) → is_between low start end high ≡ true → nat_lt start end ≡ true
rises low start end high is = grind (arith, nat_tests)

every_rises : (t : Tree) → Rises t
every_rises = every_tree Rises (λ start end text low high lies. lists_rise_word start end text) (λ start end items low high lies.
    let parts = sym (lies_in_list start end (map (λ e. e.0) items) low high) ∙ lies in
    lists_rise_list start end (map (λ e. e.0) items)
    ∙ both _ _ (rises low start end high (first _ _ parts)) (all_rise (start + 1) (end - 1) items (second (is_between low start end high) _ parts)))

-- and so its lists have their starts before their ends
pub lists_rise_in_text : (bytes : List ℕ) (t : Tree) → Spells bytes t → IsTrue (lists_rise t)
lists_rise_in_text bytes t text = every_rises t 0 (length bytes) (lies_in_text bytes t text)
