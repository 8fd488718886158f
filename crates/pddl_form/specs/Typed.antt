-- Typed lists: names or variables, each perhaps with types behind a `-`.
use Rattle.std.specs.Prelude.{ℕ, Bool, true, not, ◌==◌, List, [], ◌∷◌, ◌++◌, map, length, Option, Some, None, codes, if◌then◌else◌}
use Rattle.sexpr.specs.declared.tree.Tree.{Tree, out-Tree}
use Rattle.sexpr.specs.declared.tree.Tree.TheOpen.{Tree-F}
use Rattle.sexpr.specs.Opened.{start_of}
use Rattle.pddl_form.specs.declared.names.Sort.{Sort}
use Rattle.pddl_form.specs.declared.names.Sort.TheVariants.{Name, Variable, Term, Keyword}
use Rattle.pddl_form.specs.declared.spot.Spot.{Spot}
use Rattle.pddl_form.specs.declared.typed.Typed.{Typed}
use Rattle.pddl_form.specs.Faults.{shape}
use Rattle.pddl_form.specs.Judged.{Judged, good, syntax_of, misshapen, closing, unread_feature, mapped, both, besides, provided, at_least}
use Rattle.pddl_form.specs.Gather.{push}
use Rattle.pddl_form.specs.Words.{word_of, is_word, word_form}

-- `(either NAME ..)`, for variables alone
abbrev pub either_form : Sort → Tree → ℕ → List Tree → Judged (List Spot)
either_form Variable head end names = at_least 1 end (map (word_form Name) names)
either_form Name head end names = unread_feature (start_of head) (word_of head)
either_form Term head end names = unread_feature (start_of head) (word_of head)
either_form Keyword head end names = unread_feature (start_of head) (word_of head)

-- where `()` is at fault: it lacks its head where a list may stand
abbrev pub no_type_place : Sort → ℕ → ℕ → ℕ
no_type_place Variable start end = closing end
no_type_place Name start end = start
no_type_place Term start end = start
no_type_place Keyword start end = start

abbrev pub type_list : Sort → ℕ → ℕ → List Tree → Judged (List Spot)
type_list sort start end [] = misshapen (no_type_place sort start end)
type_list sort start end (head ∷ names) = if is_word (codes "either") head then either_form sort head end names else misshapen start

abbrev pub only : {A : Type 0} → A → List A
only a = a ∷ []

abbrev pub type_at : Sort → Tree → Tree-F Tree → Judged (List Spot)
type_at sort tree (Tree-F.Word start end text) = mapped only (word_form Name tree)
type_at sort tree (Tree-F.List start end items) = type_list sort start end items

-- what may stand behind a `-`: a name, and behind variables also `(either NAME ..)`, of which an object has any
unfoldable pub type_form : Sort → Tree → Judged (List Spot)
type_form sort tree = type_at sort tree (out-Tree tree)

abbrev pub with_types : List Spot → Spot → Typed
with_types types name = record { name = name; types = types }

abbrev pub all_with_types : List Spot → List Spot → List Typed
all_with_types names types = map (with_types types) names

abbrev pub untyped : List Spot → List Typed
untyped names = all_with_types names []

-- a list of names, or names of which one is at fault, has an item
abbrev pub has_item : Option (List Spot) → Bool
has_item None = true
has_item (Some names) = not (length names == 0)

-- the items in front of a `-`, of which there is at least one
abbrev pub in_front_of : Tree → Judged (List Spot) → Judged (List Spot)
in_front_of dash items = provided (has_item (syntax_of items)) (shape (start_of dash)) items

abbrev mutual
  -- a typed list behind items that have no type yet
  pub behind_items : Sort → ℕ → Judged (List Spot) → List Tree → Judged (List Typed)
  behind_items sort end items [] = mapped untyped items
  behind_items sort end items (t ∷ more) = if is_word (codes "-") t then behind_dash sort end (in_front_of t items) more else behind_items sort end (both push items (word_form sort t)) more

  -- what follows the `-` behind these items: a type, and a typed list
  pub behind_dash : Sort → ℕ → Judged (List Spot) → List Tree → Judged (List Typed)
  behind_dash sort end items [] = besides (shape (closing end)) (mapped untyped items)
  behind_dash sort end items (t ∷ more) = both ◌++◌ (both all_with_types items (type_form sort t)) (behind_items sort end (good []) more)

-- a typed list in a list that ends before this place
unfoldable pub typed_list : Sort → ℕ → List Tree → Judged (List Typed)
typed_list sort end trees = behind_items sort end (good []) trees
