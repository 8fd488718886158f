-- Clauses by literal: a number stands under one literal of its clause.
use Rattle.std.specs.Prelude.{◌≤◌, ℕ, Bool, true, List, [], ◌∷◌, map, length, slice_index_or, if◌then◌else◌}
use Rattle.std.specs.List.{Contains}
use Rattle.std.specs.Global.{Vec}
use Rattle.formula.specs.declared.atom.Lit.{Lit}

-- for each Boolean the numbers under its positive and under its negative literal; and whether the empty clause is there
pub record Places : Type 0 where
  pub positive : List (List ℕ)
  pub negative : List (List ℕ)
  pub empty : Bool

-- lists of the program as lists
abbrev pub are_lists : List (Vec ℕ) → List (List ℕ)
are_lists lists = map (λ v. v.items) lists

abbrev pub at_place : List (List ℕ) → ℕ → List ℕ
at_place lists place = slice_index_or lists place []

-- the numbers under a literal
abbrev pub listed : Places → Lit → List ℕ
listed p l = if l.pos then at_place p.positive l.boolean else at_place p.negative l.boolean

-- there are lists for so many Booleans
pub record HasRoom (p : Places) (booleans : ℕ) : Type 0 where
  pub positive : booleans ≤ length p.positive
  pub negative : booleans ≤ length p.negative

-- the clause of this number stands under one of its literals; the empty one has none
abbrev pub IsListed : Places → ℕ → List Lit → Type 0
IsListed p number [] = Unit {0}
IsListed p number (l ∷ ls) = (m : Lit) × Contains (l ∷ ls) m × Contains (listed p m) number

-- with the empty clause
abbrev pub with_empty : Places → Places
with_empty p = record { positive = p.positive; negative = p.negative; empty = true }

-- each number stays in its list
abbrev pub Stay : List (List ℕ) → List (List ℕ) → Type 0
Stay old new = (place number : ℕ) → Contains (at_place old place) number → Contains (at_place new place) number

-- what is listed stays so
abbrev pub Keeps : Places → Places → Type 0
Keeps old new = (number : ℕ) (c : List Lit) → IsListed old number c → IsListed new number c
