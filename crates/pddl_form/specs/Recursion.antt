-- Recursion on trees.
use Rattle.std.specs.Prelude.{ℕ, List, map}
use Rattle.sexpr.specs.declared.tree.Tree.{Tree}
use Rattle.sexpr.specs.declared.tree.Tree.TheOpen.{Tree-F}
use Rattle.sexpr.specs.declared.tree.Tree.TheFolds.{fold-Tree, map-Tree}
use Rattle.sexpr.specs.declared.tree.Tree.TheViews.{roll-Tree}

-- what is made of a word, by its start, its end and its text; what is made of a list, by its start, its end, its items
-- and what is made of each of them
abbrev pub OfWord : Type 0 → Type 0
OfWord A = ℕ → ℕ → List ℕ → A

abbrev pub OfList : Type 0 → Type 0
OfList A = ℕ → ℕ → List Tree → List A → A

abbrev pub rec_step : {A : Type 0} → OfWord A → OfList A → Tree-F (Tree × A) → A
rec_step word list (Tree-F.Word start end text) = word start end text
rec_step word list (Tree-F.List start end items) = list start end (map (λ p. p.0) items) (map (λ p. p.1) items)

abbrev pub with_tree : {A : Type 0} → OfWord A → OfList A → Tree-F (Tree × A) → Tree × A
with_tree {A} word list items = (roll-Tree (map-Tree (Tree × A) Tree (λ p. p.0) items), rec_step word list items)

-- what is made of a tree
unfoldable pub tree_rec : {A : Type 0} → OfWord A → OfList A → Tree → A
tree_rec {A} word list tree = (fold-Tree (Tree × A) (with_tree word list) tree).1
