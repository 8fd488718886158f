-- A tableau: each basic variable as a sum over the non-basic ones (the simplex method). Its equations are a relation on
-- points, and a cell is 0 where there is none, so that sums go over all variables. Only this crate knows how cells are kept.
use Rattle.std.specs.Prelude.{◌≡◌, ◌↔◌, ℕ, zero, suc, ◌+◌, ◌<◌, ◌≤◌, Bool, false, IsTrue, List, [], ◌∷◌, ◌++◌, length, map, slice_index_or, if◌then◌else◌}
use lib.IntN.{pos}
use Rattle.rational.specs.Fraction.{Fraction, whole, ◌*ℚ◌}
use Rattle.rational.specs.Linear.{Terms, value_at}
use Rattle.lin.specs.Linear.{Linear}
use Rattle.tableau.specs.FiniteSums.{sum_below}

-- the row of each variable over all variables, which is empty where it isn't basic
pub record Table : Type 0 where
  pub rows : List (List Fraction)
  pub basic : List Bool

abbrev pub at : List Fraction → ℕ → Fraction
at xs j = slice_index_or xs j (whole (pos 0))

-- the cells of a list of rows
abbrev pub cells_of : List (List Fraction) → ℕ → ℕ → Fraction
cells_of rows i j = at (slice_index_or rows i []) j

-- ---- what is seen of a tableau

-- how many variables there are
unfoldable pub width : Table → ℕ
width t = length t.basic

-- the factor of variable j in the row of r
unfoldable pub cell : Table → ℕ → ℕ → Fraction
cell t r j = cells_of t.rows r j

-- is r in the basis?
unfoldable pub is_basic : Table → ℕ → Bool
is_basic t r = slice_index_or t.basic r false

-- the numbers below n with the property, in rising order
abbrev pub numbers_below : ℕ → (ℕ → Bool) → List ℕ
numbers_below zero p = []
numbers_below (suc n) p = if p n then (numbers_below n p ++ n ∷ []) else numbers_below n p

-- the basic variables in rising order
abbrev pub basis : Table → List ℕ
basis t = numbers_below (width t) (is_basic t)

-- ---- its equations

-- the value of the row of r at a point
abbrev pub row_value : Table → ℕ → (ℕ → Fraction) → Fraction
row_value t r point = sum_below (width t) (λ j. cell t r j *ℚ point j)

-- the point meets each equation
abbrev pub Solves : Table → (ℕ → Fraction) → Type 0
Solves t point = (r : ℕ) → r < width t → IsTrue (is_basic t r) → point r ≡ row_value t r point

-- a row has cells of non-basic variables alone, and a non-basic variable has none
pub record IsTidy (t : Table) : Type 0 where
  pub basic_column : (r j : ℕ) → r < width t → j < width t → IsTrue (is_basic t j) → cell t r j ≡ whole (pos 0)
  pub other_row : (r j : ℕ) → r < width t → j < width t → is_basic t r ≡ false → cell t r j ≡ whole (pos 0)

-- ---- the rows that it is made from

-- the terms of the expression of a row; its constant doesn't count
abbrev pub terms_at : List Linear → ℕ → Terms
terms_at rows i = slice_index_or (map (λ l. l.terms) rows) i []

-- each row has a variable of its own behind the first `vars`, with the value of its expression
abbrev pub SolvesRows : ℕ → List Linear → (ℕ → Fraction) → Type 0
SolvesRows vars rows point = (i : ℕ) → i < length rows → point (vars + i) ≡ value_at point (terms_at rows i)

-- its equations have the same solutions as the rows
pub record IsTableauOf (vars : ℕ) (rows : List Linear) (t : Table) : Type 0 where
  pub tidy : IsTidy t
  pub covers : width t ≡ vars + length rows
  pub same : (point : ℕ → Fraction) → Solves t point ↔ SolvesRows vars rows point

-- the first one, whose basis are the variables of the rows
pub record IsFirstTableau (vars : ℕ) (rows : List Linear) (t : Table) : Type 0 where
  pub tableau : IsTableauOf vars rows t
  pub basis : (i : ℕ) → i < width t → IsTrue (is_basic t i) ↔ (vars ≤ i)
