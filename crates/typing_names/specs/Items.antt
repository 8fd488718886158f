-- Items of the program, as items of the definitions.
use Rattle.std.specs.Prelude.{ℕ, Bool, nat_lt, List, map}
use Rattle.std.specs.List.{list_all}
use Rattle.typing_names.specs.declared.item.Item.{Item as Counted}
use Rattle.typing_names.specs.declared.item.Item.TheVariants as counted
use Rattle.typing_names.specs.Problem.{Item, atom, value}

-- the item that an item of the program is
abbrev pub item_of : Counted → Item
item_of (counted.Atom place pos pred args) = atom place pos pred args
item_of (counted.Value place func args amount) = value place func args amount

-- the same of several
abbrev pub items_of : List Counted → List Item
items_of items = map item_of items

-- an item has one of so many predicates, or one of so many functions
abbrev pub is_counted : ℕ → ℕ → Item → Bool
is_counted preds funcs (atom place pos pred args) = nat_lt pred preds
is_counted preds funcs (value place func args amount) = nat_lt func funcs

-- so has each of several
abbrev pub are_counted : ℕ → ℕ → List Counted → Bool
are_counted preds funcs items = list_all (is_counted preds funcs) (items_of items)
