-- Clauses that follow by unit propagation from the clauses that their hints name (reverse unit propagation).
use Rattle.std.specs.Prelude.{◌≡◌, ◌≢◌, ℕ, List, [], ◌∷◌, Some, slice_get}
use Rattle.std.specs.List.{Contains}
use Rattle.formula.specs.declared.atom.Lit.{Lit}
use Rattle.formula.specs.Reading.{opposite}

-- with these literals true, each literal of the clause is false
abbrev pub IsFalse : List Lit → List Lit → Type 0
IsFalse trues clause = (m : Lit) → Contains clause m → Contains trues (opposite m)

-- with these literals true, this one of the clause is unassigned, and each other is false
pub record IsUnit (trues clause : List Lit) (l : Lit) : Type 0 where
  pub within : Contains clause l
  pub not_true : Contains trues l → ⊥
  pub not_false : Contains trues (opposite l) → ⊥
  pub others : (m : Lit) → Contains clause m → m ≢ l → Contains trues (opposite m)

-- with these literals true, each hint but the last makes one more true, and the last is false
abbrev pub Follows : List (List Lit) → List Lit → List ℕ → Type 0
Follows clauses trues [] = ⊥
Follows clauses trues (h ∷ []) = (c : List Lit) × (slice_get clauses h ≡ Some c) × IsFalse trues c
Follows clauses trues (h ∷ i ∷ hints) = (c : List Lit) × (slice_get clauses h ≡ Some c) × (l : Lit) × IsUnit trues c l × Follows clauses (l ∷ trues) (i ∷ hints)
