-- The variables that atoms bound: a left side that is one variable stands for itself, and each other one has a row with a
-- variable of its own. Row variables are numbered behind the numeric variables, in the order of the atoms.
use Rattle.std.specs.Prelude.{ℕ, suc, ◌+◌, Bool, true, false, ◌||◌, nat_lt, List, [], ◌∷◌, ◌++◌, length, Option, Some, None, if◌then◌else◌}
use Rattle.rational.specs.Linear.{Terms}
use Rattle.lin.specs.Linear.{Linear}
use Rattle.formula.specs.Equal.{same_terms}
use Rattle.formula.specs.declared.atom.Atom.{Atom}

abbrev pub is_one_term : Terms → Bool
is_one_term [] = false
is_one_term (t ∷ []) = true
is_one_term (t ∷ u ∷ ts) = false

-- the place of the first row with these terms, or how many rows there are
abbrev pub row_with : Terms → List Linear → ℕ
row_with ts [] = 0
row_with ts (l ∷ rows) = if same_terms l.terms ts then 0 else suc (row_with ts rows)

-- the rows, with one more for a left side that has none
abbrev pub with_side : List Linear → Linear → List Linear
with_side rows l = if (is_one_term l.terms || nat_lt (row_with l.terms rows) (length rows)) then rows else (rows ++ l ∷ [])

abbrev pub with_atom : List Linear → Option Atom → List Linear
with_atom rows None = rows
with_atom rows (Some a) = with_side rows a.lin

abbrev pub with_atoms : List Linear → List (Option Atom) → List Linear
with_atoms rows [] = rows
with_atoms rows (a ∷ atoms) = with_atoms (with_atom rows a) atoms

abbrev pub rows_of : List (Option Atom) → List Linear
rows_of atoms = with_atoms [] atoms

-- the variable with this left side
abbrev pub variable_of : ℕ → List Linear → Terms → ℕ
variable_of vars rows [] = vars + row_with [] rows
variable_of vars rows (t ∷ []) = t.0
variable_of vars rows (t ∷ u ∷ ts) = vars + row_with (t ∷ u ∷ ts) rows
