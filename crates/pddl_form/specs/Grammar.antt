-- What a syntax is like in the words of the grammar (this project's profile of PDDL 2.1): the readers promise it of all that
-- they make. Here: words, symbols with their arguments, and typed lists.
use Rattle.std.specs.Prelude.{ℕ, Bool, true, ◌&&◌, nat_le, List, length}
use Rattle.std.specs.List.{list_all}
use Rattle.pddl_form.specs.declared.names.Sort.{Sort}
use Rattle.pddl_form.specs.declared.names.Sort.TheVariants.{Name, Variable, Term, Keyword}
use Rattle.pddl_form.specs.declared.spot.Spot.{Spot}
use Rattle.pddl_form.specs.declared.typed.Typed.{Typed}
use Rattle.pddl_form.specs.Names.{takes, is_symbol}

-- a word of a sort
abbrev pub is_of : Sort → Spot → Bool
is_of sort spot = takes sort spot.text

-- a predicate or a function with its arguments: its name isn't a word with a meaning of its own
abbrev pub is_call : Sort → Spot → List Spot → Bool
is_call sort name args = is_symbol name.text && list_all (is_of sort) args

-- how many types may be written: behind variables any number (of `either`), else at most one
abbrev pub may_have : Sort → ℕ → Bool
may_have Variable count = true
may_have Name count = nat_le count 1
may_have Term count = nat_le count 1
may_have Keyword count = nat_le count 1

-- what is written behind a `-`: names
abbrev pub are_types : Sort → List Spot → Bool
are_types sort types = may_have sort (length types) && list_all (is_of Name) types

-- an item of a typed list
abbrev pub is_typed : Sort → Typed → Bool
is_typed sort item = is_of sort item.name && are_types sort item.types
