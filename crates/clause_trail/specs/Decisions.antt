-- The decisions of a trail, and its literals.
use Rattle.std.specs.Prelude.{◌≡◌, ℕ, ◌<◌, List, map, take, Some, None, slice_get}
use Rattle.std.specs.List.{All}
use Rattle.formula.specs.declared.atom.Lit.{Lit}
use Rattle.clause_trail.specs.declared.trail.Entry.{Entry}
use Rattle.clause_trail.specs.Standing.{Stands}
use Rattle.clause_trail.specs.Propagation.{IsComplete}

abbrev pub lit_of : Entry → Lit
lit_of e = e.lit

abbrev pub lits_of : List Entry → List Lit
lits_of entries = map lit_of entries

-- the trail's Booleans are in range
abbrev pub IsBelow : ℕ → List Entry → Type 0
IsBelow n entries = (p : ℕ) (l : Lit) → Stands entries p l → l.boolean < n

abbrev pub IsWithin : ℕ → List Lit → Type 0
IsWithin n clause = All (λ m. m.boolean < n) clause

-- a decision stands at the place
abbrev pub HasDecisionAt : List Entry → ℕ → Type 0
HasDecisionAt entries i = (l : Lit) × (slice_get entries i ≡ Some (record { lit = l; reason = None }))

abbrev pub IsLastDecision : List Entry → ℕ → Type 0
IsLastDecision entries d = HasDecisionAt entries d × ((i : ℕ) → d < i → HasDecisionAt entries i → ⊥)

-- propagation was complete when each decision was made
abbrev pub IsComplete_before : List (List Lit) → List Entry → Type 0
IsComplete_before clauses entries = (d : ℕ) → HasDecisionAt entries d → IsComplete clauses (lits_of (take d entries))
