-- What conflict analysis marks.
use Rattle.std.specs.Prelude.{◌≡◌, ◌≢◌, ◌⊎◌, ℕ, ◌<◌, ◌≤◌, [], ◌∷◌, Bool, true, false, List, length, Some, slice_get}
use Rattle.std.specs.List.{Contains}
use Rattle.formula.specs.declared.atom.Lit.{Lit}
use Rattle.formula.specs.Reading.{opposite}
use Rattle.theory_law.specs.Licence.{IsNew}
use Rattle.theory_law.specs.Units.{IsUnit}
use Rattle.clause_trail.specs.declared.trail.Entry.{Entry}
use Rattle.clause_learn.specs.declared.fixed.Fixed.{Fixed}
use Rattle.clause_trail.specs.Standing.{Stands, IsApart}

-- the literal stands before the place, and is marked
abbrev pub IsMarked : List Entry → List Bool → ℕ → Lit → Type 0
IsMarked entries marked n l = (p : ℕ) × (p < n) × Stands entries p l × (slice_get marked p ≡ Some true)

-- each resolved literal is forced by marked ones before it
pub record IsResolved (clauses : List (List Lit)) (entries : List Entry) (marked : List Bool) (i : ℕ) : Type 0 where
  pub lit : Lit
  pub reason : ℕ
  pub clause : List Lit
  pub entry : slice_get entries i ≡ Some (record { lit = lit; reason = Some reason })
  pub at_reason : slice_get clauses reason ≡ Some clause
  pub within : Contains clause lit
  pub others : (m : Lit) → Contains clause m → m ≢ lit → IsMarked entries marked i (opposite m)
  pub itself : slice_get marked i ≡ Some true

abbrev pub IsClosed : List (List Lit) → List Entry → List Bool → List Bool → Type 0
IsClosed clauses entries marked resolved = (i : ℕ) → slice_get resolved i ≡ Some true → IsResolved clauses entries marked i

-- each literal of the clause is false by a marked one
abbrev pub IsAllMarked : List Entry → List Bool → List Lit → Type 0
IsAllMarked entries marked clause = (m : Lit) → Contains clause m → IsMarked entries marked (length entries) (opposite m)

-- the literals that are marked and not resolved, turned
pub record IsKept (entries : List Entry) (marked resolved : List Bool) (clause : List Lit) : Type 0 where
  pub sound : (l : Lit) → Contains clause l → (p : ℕ) × Stands entries p (opposite l) × (slice_get marked p ≡ Some true) × (slice_get resolved p ≡ Some false)
  pub complete : (p : ℕ) (l : Lit) → Stands entries p l → slice_get marked p ≡ Some true → slice_get resolved p ≡ Some false → Contains clause (opposite l)

-- with these literals true before, the reasons of the resolved places make the clause of this number false
pub record IsAnalyzed (clauses : List (List Lit)) (entries : List Entry) (marked resolved : List Bool) (at : ℕ) (before : List Lit) : Type 0 where
  pub conflict : List Lit
  pub at_conflict : slice_get clauses at ≡ Some conflict
  pub all_false : (m : Lit) → Contains conflict m → Contains before (opposite m) ⊎ IsMarked entries marked (length entries) (opposite m)
  pub closed : IsClosed clauses entries marked resolved
  pub apart : IsApart entries
  pub given : (p : ℕ) (l : Lit) → Stands entries p l → slice_get marked p ≡ Some true → slice_get resolved p ≡ Some false → Contains before l
  pub fresh : (l : Lit) → Contains before l → (p : ℕ) (m : Lit) → Stands entries p m → slice_get resolved p ≡ Some true → l.boolean ≡ m.boolean → ⊥
  pub lengths : length resolved ≡ length entries

-- a literal that is false by a marked one that isn't resolved
pub record IsKeptAt (entries : List Entry) (marks resolves : List Bool) (b : ℕ) (l : Lit) : Type 0 where
  pub boolean : l.boolean ≡ b
  pub place : ℕ
  pub stands : Stands entries place (opposite l)
  pub marked : slice_get marks place ≡ Some true
  pub resolved : slice_get resolves place ≡ Some false

-- marks are never taken back
abbrev pub Grows : List Bool → List Bool → Type 0
Grows old new = (p : ℕ) → slice_get old p ≡ Some true → slice_get new p ≡ Some true

-- what going back over the trail leaves
pub record IsMarkedUp (clauses : List (List Lit)) (entries : List Entry) (conflict : ℕ) (marked resolved : List Bool) : Type 0 where
  pub closed : IsClosed clauses entries marked resolved
  pub all_marked : (c : List Lit) → slice_get clauses conflict ≡ Some c → IsAllMarked entries marked c
  pub marks : length marked ≡ length entries
  pub resolves : length resolved ≡ length entries

-- it stands before each decision, forced by a clause, and no clause has it alone
pub record IsFixed (clauses : List (List Lit)) (entries : List Entry) (base : ℕ) (f : Fixed) : Type 0 where
  pub low : f.place < base
  pub entry : slice_get entries f.place ≡ Some (record { lit = f.lit; reason = Some f.reason })
  pub unstated : IsNew clauses (f.lit ∷ [])

-- what the reason of this place stands on is marked, and resolved from `i` on
pub record IsChain (clauses : List (List Lit)) (entries : List Entry) (place : ℕ) (lit : Lit) (reason i : ℕ) (marked resolved : List Bool) : Type 0 where
  pub closed : IsClosed clauses entries marked resolved
  pub others : (c : List Lit) → slice_get clauses reason ≡ Some c → (m : Lit) → Contains c m → m ≢ lit → IsMarked entries marked (length entries) (opposite m)
  pub low : (p : ℕ) → slice_get marked p ≡ Some true → p < place
  pub done : (p : ℕ) → i ≤ p → slice_get marked p ≡ Some true → slice_get resolved p ≡ Some true
  pub marks : length marked ≡ length entries
  pub resolves : length resolved ≡ length entries

-- the hints in turn make these literals true
abbrev pub Propagates : List (List Lit) → List ℕ → List Lit → List Lit → Type 0
Propagates clauses [] before after = after ≡ before
Propagates clauses (h ∷ hints) before after = (c : List Lit) × (slice_get clauses h ≡ Some c) × (l : Lit) × IsUnit before c l × Propagates clauses hints (l ∷ before) after
