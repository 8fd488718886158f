-- The spans of a tree: `start..end` in bytes of its text.
use Rattle.std.specs.Prelude.{ℕ, ◌+◌, ◌-◌, Bool, true, ◌&&◌, nat_lt, nat_le}
use Rattle.std.specs.List.{list_all}
use Rattle.sexpr.specs.declared.tree.Tree.{Tree}
use Rattle.sexpr.specs.declared.tree.Tree.TheOpen.{Tree-F}
use Rattle.sexpr.specs.declared.tree.Tree.TheFolds.{fold-Tree}

abbrev pub rise_step : Tree-F Bool → Bool
rise_step (Tree-F.Word start end text) = true
rise_step (Tree-F.List start end items) = nat_lt start end && list_all (λ item. item) items

-- each list of a tree has its start before its end
unfoldable pub lists_rise : Tree → Bool
lists_rise = fold-Tree Bool rise_step

-- a span that isn't empty, between two places
abbrev pub is_between : ℕ → ℕ → ℕ → ℕ → Bool
is_between low start end high = nat_le low start && nat_lt start end && nat_le end high

abbrev pub lies_step : Tree-F (ℕ → ℕ → Bool) → ℕ → ℕ → Bool
lies_step (Tree-F.Word start end text) low high = is_between low start end high
lies_step (Tree-F.List start end items) low high = is_between low start end high && list_all (λ item. item (start + 1) (end - 1)) items

-- a tree lies between two places: its own span does, and the items of each list between the list's parentheses
unfoldable pub lies_in : Tree → ℕ → ℕ → Bool
lies_in = fold-Tree (ℕ → ℕ → Bool) lies_step
