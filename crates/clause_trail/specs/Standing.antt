-- The literals of a trail and their places.
use Rattle.std.specs.Prelude.{◌≡◌, ◌≢◌, ℕ, ◌<◌, ◌+◌, List, Option, Some, None, slice_get, length}
use Rattle.std.specs.List.{Contains, sum_by}
use Rattle.formula.specs.declared.atom.Lit.{Lit}
use Rattle.formula.specs.Reading.{opposite}
use Rattle.clause_trail.specs.declared.trail.Entry.{Entry}

-- what a clause sees of a trail
pub record Trailed : Type 0 where
  pub entries : List Entry
  pub booleans : ℕ
  pub free : ℕ

abbrev pub free_of : Option ℕ → ℕ
free_of None = 1
free_of (Some p) = 0

-- the literal stands at the place
abbrev pub Stands : List Entry → ℕ → Lit → Type 0
Stands entries p l = (r : Option ℕ) × (slice_get entries p ≡ Some (record { lit = l; reason = r }))

-- no literal of the Boolean stands
abbrev pub IsFree : List Entry → ℕ → Type 0
IsFree entries b = (p : ℕ) (l : Lit) → Stands entries p l → l.boolean ≡ b → ⊥

-- no two places have one Boolean
abbrev pub IsApart : List Entry → Type 0
IsApart entries = (i j : ℕ) (l m : Lit) → Stands entries i l → Stands entries j m → l.boolean ≡ m.boolean → i ≡ j

-- the table has the place of each literal
pub record IsPlaced (place : List (Option ℕ)) (entries : List Entry) : Type 0 where
  pub holds : (b p : ℕ) → slice_get place b ≡ Some (Some p) → (l : Lit) × Stands entries p l × (l.boolean ≡ b)
  pub found : (p : ℕ) (l : Lit) → Stands entries p l → slice_get place l.boolean ≡ Some (Some p)

-- and each place is counted
pub record IsTabled (place : List (Option ℕ)) (entries : List Entry) : Type 0 where
  pub placed : IsPlaced place entries
  pub counted : sum_by free_of place + length entries ≡ length place

-- the literal stands before the place
abbrev pub Before : List Entry → ℕ → Lit → Type 0
Before entries n l = (p : ℕ) × (p < n) × Stands entries p l

-- with the literals before the place, all of the clause is false but for one literal
pub record Forces (entries : List Entry) (n : ℕ) (clause : List Lit) (l : Lit) : Type 0 where
  pub within : Contains clause l
  pub others : (m : Lit) → Contains clause m → m ≢ l → Before entries n (opposite m)

-- each reason forces its literal
abbrev pub IsJustified : List (List Lit) → List Entry → Type 0
IsJustified clauses entries = (i : ℕ) (l : Lit) (k : ℕ) → slice_get entries i ≡ Some (record { lit = l; reason = Some k }) → (c : List Lit) × (slice_get clauses k ≡ Some c) × Forces entries i c l
