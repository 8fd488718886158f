-- How far the pass over the tree has come.
use Rattle.std.specs.Prelude.{◌≡◌, ◌⊎◌, ℕ, ◌+◌, ◌<◌, ◌≤◌, IsTrue, List, ◌∷◌, ◌++◌, [], length, drop, slice_index, Option, Some, None}
use Rattle.std.specs.List.{flat_map}
use Rattle.sexpr.specs.declared.tree.Tree.{Tree}
use Rattle.sexpr.specs.declared.reading.Level.{Level}
use Rattle.sexpr.specs.Bytes.{is_in_word}
use Rattle.sexpr.specs.Comments.{bare}
use Rattle.sexpr.specs.Tokens.{Token, Open, tokens}
use Rattle.sexpr.specs.Spelling.{tokens_of, is_list}
use Rattle.sexpr.specs.Faults.{opened_before, closed_before, IsParenFault, IsDeepFault}

-- the words and parentheses of an open list
abbrev pub level_tokens : Level → List Token
level_tokens level = Open level.start ∷ flat_map tokens_of level.items.items

-- those of the one list, once it is closed
abbrev pub whole_tokens : Option Tree → List Token
whole_tokens None = []
whole_tokens (Some tree) = tokens_of tree

-- the one list is closed, or no list was opened but those that are open
abbrev pub IsOneList : Option Tree → ℕ → ℕ → Type 0
IsOneList None depth opened = depth ≡ 0 → opened ≡ 0
IsOneList (Some tree) depth opened = (depth ≡ 0) × (0 < opened) × IsTrue (is_list tree)

-- so many lists are open at a place, and there is no fault before it
pub record IsCounted (text : List ℕ) (whole : Option Tree) (depth at : ℕ) : Type 0 where
  pub counted : opened_before text at ≡ depth + closed_before text at
  pub one_list : IsOneList whole depth (opened_before text at)
  pub no_fault : (place : ℕ) → place < at → IsParenFault text place ⊎ IsDeepFault text place → ⊥

-- no comment and no word goes on at a place, and what was read before it is all that stands there
pub record IsReadTo (bytes : List ℕ) (whole : Option Tree) (lists : List Level) (at : ℕ) : Type 0 where
  pub within : at ≤ length bytes
  pub no_comment : drop at (bare bytes) ≡ bare (drop at bytes)
  pub no_word : (before : ℕ) → before + 1 ≡ at → IsTrue (is_in_word (slice_index (bare bytes) before)) → IsTrue (is_in_word (slice_index (bare bytes) at)) → ⊥
  pub found : (whole_tokens whole ++ flat_map level_tokens lists) ++ tokens at (drop at (bare bytes)) ≡ tokens 0 (bare bytes)
  pub counts : IsCounted (bare bytes) whole (length lists) at
