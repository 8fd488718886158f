-- Clauses under their literals, so that the parts of a clause are looked for among few.
use Rattle.std.specs.Prelude.{◌≡◌, ◌↔◌, ℕ, Bool, List, [], Option, Some, slice_get, IsTrue}
use Rattle.std.specs.List.{Contains}
use Rattle.formula.specs.declared.atom.Lit.{Lit}
use Rattle.clause_units.specs.Scanning.{IsBroken}
use Rattle.clause_index.specs.Places.{Places, IsListed}

-- each clause stands under one of its literals, and the flag tells of the empty one
pub record IsIndexed (clauses : List (List Lit)) (index : Places) : Type 0 where
  pub flag : IsTrue index.empty ↔ Contains clauses []
  pub listed : (n : ℕ) (c : List Lit) → slice_get clauses n ≡ Some c → IsListed index n c

-- a clause with one of the numbers is false
abbrev pub HasBroken : List (Option Bool) → List (List Lit) → List ℕ → Type 0
HasBroken table clauses numbers = (n : ℕ) × (d : List Lit) × Contains numbers n × (slice_get clauses n ≡ Some d) × IsBroken table d
