-- Types by name: the number of the type above each.
use Rattle.std.specs.Prelude.{ℕ, List, unwrap_or}
use Rattle.name_table.specs.NameTable.{number_in}
use Rattle.pddl_form.specs.declared.spot.Spot.{Spot}
use Rattle.pddl_form.specs.declared.typed.Typed.{Typed}
use Rattle.typing_names.specs.Domain.{listed_under, supertype_of}

-- of the type that a list behind a name begins with
abbrev pub number_above : List (List ℕ) → List Spot → ℕ
number_above names written = unwrap_or (number_in names (listed_under written)) 0

-- of the type that a name is listed with
abbrev pub parent_in : List Typed → List (List ℕ) → List ℕ → ℕ
parent_in types names name = unwrap_or (number_in names (supertype_of types name)) 0
