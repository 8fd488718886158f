-- A table of truths: for each Boolean whether it is true, or None where it is open.
use Rattle.std.specs.Prelude.{◌≡◌, ◌↔◌, ◌<◌, ℕ, Bool, true, List, Option, Some, None, slice_get, All}
use Rattle.std.specs.List.{Contains}
use Rattle.formula.specs.declared.atom.Lit.{Lit}
use Rattle.formula.specs.Equal.{same_bool}

-- each assigned Boolean stands in the list
abbrev pub AreListed : List (Option Bool) → List ℕ → Type 0
AreListed table assigned = (b : ℕ) (t : Bool) → slice_get table b ≡ Some (Some t) → Contains assigned b

abbrev pub truth_where : Bool → Option (Option Bool) → Option Bool
truth_where pos None = None
truth_where pos (Some None) = None
truth_where pos (Some (Some t)) = Some (same_bool t pos)

-- whether the literal is true, where its Boolean is assigned
abbrev pub truth_of : List (Option Bool) → Lit → Option Bool
truth_of table l = truth_where l.pos (slice_get table l.boolean)

-- nothing is assigned
abbrev pub IsBare : List (Option Bool) → Type 0
IsBare table = (b : ℕ) (t : Bool) → slice_get table b ≡ Some (Some t) → ⊥

-- the table makes these literals true, and no others
abbrev pub Tells : List (Option Bool) → List Lit → Type 0
Tells table trues = (l : Lit) → Contains trues l ↔ (truth_of table l ≡ Some true)

-- the Booleans of the clause are below this number
abbrev pub AreWithin : ℕ → List Lit → Type 0
AreWithin n clause = All (λ l. l.boolean < n) clause
