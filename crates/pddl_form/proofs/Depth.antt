-- Trees are finite: how deep lists stand in one another falls from a list to its items.
use Rattle.std.proofs.Common.{◌≡◌, ℕ, ◌+◌, ◌<◌, ◌≤◌, max, suc, zero, List, [], ◌∷◌, map, length, get_or, drop, arith, ap, sym, ◌∙◌}
use Rattle.sexpr.specs.declared.tree.Tree.{Tree}
use Rattle.sexpr.specs.declared.tree.Tree.TheVariants as tree
use Rattle.sexpr.specs.declared.tree.Tree.TheOpen.{Tree-F}
use Rattle.sexpr.specs.declared.tree.Tree.TheFolds.{fold-Tree, fold-roll-Tree}

abbrev pub greatest : List ℕ → ℕ
greatest [] = 0
greatest (n ∷ ns) = max n (greatest ns)

abbrev depth_step : Tree-F ℕ → ℕ
depth_step (Tree-F.Word start end text) = 0
depth_step (Tree-F.List start end depths) = greatest depths + 1

-- how many lists stand in one another at most
unfoldable pub depth_of : Tree → ℕ
depth_of = fold-Tree ℕ depth_step

abbrev pub deepest : List Tree → ℕ
deepest trees = greatest (map depth_of trees)

depth_of-list : (start end : ℕ) (items : List Tree) → depth_of (tree.List start end items) ≡ deepest items + 1
unfolding depth_of
depth_of-list start end items = ap (fold-Tree ℕ depth_step) (sym (tree.rolls-List start end items)) ∙ fold-roll-Tree ℕ depth_step (Tree-F.List start end items)

pub list_is_deeper : (t : Tree) (start end : ℕ) (items : List Tree) → t ≡ tree.List start end items → deepest items < depth_of t
list_is_deeper t start end items is = omega (arith, depth_of-list start end items, ap depth_of is)

pub deepest-get : (trees : List Tree) (i : ℕ) (t : Tree) → i < length trees → t ≡ get_or trees i t → depth_of t ≤ deepest trees
deepest-get [] i t within is = absurd (omega arith)
deepest-get (s ∷ trees) zero t within is = omega (arith, ap depth_of is)
deepest-get (s ∷ trees) (suc i) t within is = omega (arith, deepest-get trees i t (omega arith) is)

pub deepest-behind : (trees : List Tree) → deepest (drop 1 trees) ≤ deepest trees
deepest-behind [] = omega arith
deepest-behind (t ∷ trees) = omega arith
