-- What holds of the fields of a core.
use Rattle.std.specs.Prelude.{◌≡◌, ℕ, ◌≤◌, List, [], ◌∷◌, ◌++◌, length, take, Option, Some, None, slice_get}
use Rattle.std.specs.List.{All, flat_map}
use Rattle.formula.specs.declared.atom.Lit.{Lit}
use Rattle.formula.specs.declared.atom.Atom.{Atom}
use Rattle.formula.specs.Contents.{Contents}
use Rattle.theory_law.specs.Seen.{Seen}
use Rattle.clause_trail.specs.declared.trail.Entry.{Entry}
use Rattle.clause_trail.specs.Standing.{Trailed, IsJustified}
use Rattle.clause_trail.specs.Decisions.{IsBelow, IsWithin, IsComplete_before}

-- a decision sets a mark
abbrev pub mark_of : Option ℕ → List (Option Lit)
mark_of None = None ∷ []
mark_of (Some reason) = []

abbrev pub put_of : Option Atom → Lit → List (Option Lit)
put_of None l = []
put_of (Some a) l = Some l ∷ []

-- the atom of a Boolean, where it has one
abbrev pub atom_of : Option (Option Atom) → Option Atom
atom_of None = None
atom_of (Some a) = a

-- what an entry tells the theory
abbrev pub event_of : List (Option Atom) → Entry → List (Option Lit)
event_of atoms e = mark_of e.reason ++ put_of (atom_of (slice_get atoms e.lit.boolean)) e.lit

abbrev pub events : List (Option Atom) → List Entry → List (Option Lit)
events atoms entries = flat_map (event_of atoms) entries

-- the first `told` entries are what the theory was told
pub record IsTold (atoms : List (Option Atom)) (asserted : List (Option Lit)) (told : ℕ) (entries : List Entry) : Type 0 where
  pub synced : asserted ≡ events atoms (take told entries)
  pub within : told ≤ length entries

-- what holds between two steps
pub record IsSane (clauses : List (List Lit)) (atoms : List (Option Atom)) (entries : List Entry) : Type 0 where
  pub justified : IsJustified clauses entries
  pub within : All (IsWithin (length atoms)) clauses
  pub below : IsBelow (length atoms) entries
  pub complete : IsComplete_before clauses entries

-- the invariant of a core
pub record IsCore (f : Contents) (s : Seen) (told : ℕ) (trail : Trailed) : Type 0 where
  pub sane : IsSane f.clauses f.atoms trail.entries
  pub in_step : IsTold f.atoms s.asserted told trail.entries
  pub same_counts : s.counts ≡ f.counts
  pub same_atoms : s.atoms ≡ f.atoms
  pub booleans : trail.booleans ≡ length f.atoms
