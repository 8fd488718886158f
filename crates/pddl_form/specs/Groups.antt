-- A typed list in the words of the grammar: groups of one or more items, each group with a `-` and its type behind it, in order,
-- and at the end items without a type.
use Rattle.std.specs.Prelude.{◌≡◌, Bool, IsTrue, not, ◌&&◌, ◌==◌, List, [], ◌∷◌, ◌++◌, length, codes}
use Rattle.std.specs.List.{list_all}
use Rattle.sexpr.specs.declared.tree.Tree.{Tree}
use Rattle.pddl_form.specs.declared.names.Sort.{Sort}
use Rattle.pddl_form.specs.declared.typed.Typed.{Typed}
use Rattle.pddl_form.specs.Judged.{Judged, good, mapped, both}
use Rattle.pddl_form.specs.Words.{is_word, word_forms}
use Rattle.pddl_form.specs.Typed.{type_form, all_with_types, untyped}

-- some items, the `-` behind them, and the type
pub record Group : Type 0 where
  pub words : List Tree
  pub dash : Tree
  pub type : Tree

-- there is an item, and the `-` is one
abbrev pub is_group : Group → Bool
is_group g = not (length g.words == 0) && is_word (codes "-") g.dash

-- the trees of some groups, and the items behind them
abbrev pub trees_of : List Group → List Tree → List Tree
trees_of [] last = last
trees_of (g ∷ groups) last = g.words ++ g.dash ∷ g.type ∷ trees_of groups last

-- each item with its type, in order
abbrev pub groups_form : Sort → List Group → List Tree → Judged (List Typed)
groups_form sort [] last = mapped untyped (word_forms sort last)
groups_form sort (g ∷ groups) last = both ◌++◌ (both all_with_types (word_forms sort g.words) (type_form sort g.type)) (groups_form sort groups last)

-- the trees are a typed list, and these are its items
pub record IsTypedList (sort : Sort) (trees : List Tree) (items : List Typed) : Type 0 where
  pub groups : List Group
  pub last : List Tree
  pub are_groups : IsTrue (list_all is_group groups)
  pub spelled : trees ≡ trees_of groups last
  pub syntax : groups_form sort groups last ≡ good items
