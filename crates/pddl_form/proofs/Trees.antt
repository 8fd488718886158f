-- What recursion on a tree is at a word and at a list.
use Rattle.std.proofs.Common.{◌≡◌, ℕ, List, [], ◌∷◌, map, sym, ◌∙◌, ap, refl}
use Rattle.sexpr.specs.declared.tree.Tree.{Tree}
use Rattle.sexpr.specs.declared.tree.Tree.TheVariants as tree
use Rattle.sexpr.specs.declared.tree.Tree.TheOpen.{Tree-F}
use Rattle.sexpr.specs.declared.tree.Tree.TheFolds.{fold-Tree, fold-roll-Tree}
use Rattle.sexpr.proofs.Trees.{every_tree}
use Rattle.pddl_form.specs.Recursion.{OfWord, OfList, tree_rec, with_tree}

module _ {A : Type 0} (word : OfWord A) (list : OfList A) where
  -- the fold that the recursion is
  folded : Tree → Tree × A
  folded = fold-Tree (Tree × A) (with_tree word list)

  folded-word : (start end : ℕ) (text : List ℕ) → folded (tree.Word start end text) ≡ with_tree word list (Tree-F.Word start end text)
  unfolding folded
  folded-word start end text = ap (fold-Tree (Tree × A) (with_tree word list)) (sym (tree.rolls-Word start end text)) ∙ fold-roll-Tree (Tree × A) (with_tree word list) (Tree-F.Word start end text)

  folded-list : (start end : ℕ) (items : List Tree) → folded (tree.List start end items) ≡ with_tree word list (Tree-F.List start end (map folded items))
  unfolding folded
  folded-list start end items = ap (fold-Tree (Tree × A) (with_tree word list)) (sym (tree.rolls-List start end items)) ∙ fold-roll-Tree (Tree × A) (with_tree word list) (Tree-F.List start end items)

  abbrev IsKept : Tree → Type 0
  IsKept t = (folded t).0 ≡ t

  abbrev trees : List ((t : Tree) × IsKept t) → List Tree
  trees items = map (λ e. e.0) items

  all_kept : (items : List ((t : Tree) × IsKept t)) → map (λ (p : Tree × A). p.0) (map folded (trees items)) ≡ trees items
  all_kept [] = refl
  all_kept (e ∷ items) = ap (λ (t : Tree). t ∷ map (λ (p : Tree × A). p.0) (map folded (trees items))) e.1 ∙ ap (λ (ts : List Tree). e.0 ∷ ts) (all_kept items)

  -- the fold keeps the tree
  kept : (t : Tree) → IsKept t
  kept = every_tree IsKept
      (λ start end text. ap (λ (p : Tree × A). p.0) (folded-word start end text) ∙ tree.rolls-Word start end text)
      (λ start end items. ap (λ (p : Tree × A). p.0) (folded-list start end (trees items)) ∙ tree.rolls-List start end (map (λ (p : Tree × A). p.0) (map folded (trees items))) ∙ ap (tree.List start end) (all_kept items))

  trees_kept : (items : List Tree) → map (λ (p : Tree × A). p.0) (map folded items) ≡ items
  trees_kept [] = refl
  trees_kept (t ∷ items) = ap (λ (s : Tree). s ∷ map (λ (p : Tree × A). p.0) (map folded items)) (kept t) ∙ ap (λ (ts : List Tree). t ∷ ts) (trees_kept items)

  made_of : (items : List Tree) → map (λ (p : Tree × A). p.1) (map folded items) ≡ map (λ t. (folded t).1) items
  made_of [] = refl
  made_of (t ∷ items) = ap (λ (made : List A). (folded t).1 ∷ made) (made_of items)

  pub tree_rec-word : (start end : ℕ) (text : List ℕ) → tree_rec word list (tree.Word start end text) ≡ word start end text
  unfolding tree_rec folded
  tree_rec-word start end text = ap (λ (p : Tree × A). p.1) (folded-word start end text)

  pub tree_rec-list : (start end : ℕ) (items : List Tree) → tree_rec word list (tree.List start end items) ≡ list start end items (map (tree_rec word list) items)
  unfolding tree_rec folded
  tree_rec-list start end items =
      ap (λ (p : Tree × A). p.1) (folded-list start end items)
      ∙ ap (λ (ts : List Tree). list start end ts (map (λ (p : Tree × A). p.1) (map folded items))) (trees_kept items)
      ∙ ap (list start end items) (made_of items)
