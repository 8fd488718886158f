-- A pivot: the row of r is solved for e, and the solved row is put into each other row in the place of e.
use Rattle.std.specs.Prelude.{◌≡◌, ◌≢◌, ◌↔◌, ℕ, ◌<◌, false, IsTrue, nat_eq, if◌then◌else◌, Result, Ok, Err}
use lib.IntN.{pos}
use Rattle.rational.specs.Fraction.{Fraction, whole, ◌+ℚ◌, ◌*ℚ◌, ◌/ℚ◌, neg_ℚ}
use Rattle.frac128.specs.declared.operations.Wide.{Wide}
use Rattle.lin.specs.Operations.{adding, multiplying, dividing}
use Rattle.tableau.specs.Named.{FitsAt, PassesAt}
use Rattle.tableau.specs.Table.{Table, width, cell, is_basic, IsTidy, Solves}

-- ---- the cells after a pivot

-- what is divided by the cell of e: 1 for r, and the cell for another variable
abbrev pub share : (ℕ → Fraction) → ℕ → ℕ → Fraction
share row r j = if nat_eq j r then whole (pos 1) else row j

-- the row of r solved for e
abbrev pub solved : (ℕ → Fraction) → ℕ → ℕ → ℕ → Fraction
solved row r e j = if nat_eq j e then whole (pos 0) else (if nat_eq j r then share row r j /ℚ row e else neg_ℚ (share row r j /ℚ row e))

-- another row with it put in for e
abbrev pub replaced : (ℕ → Fraction) → (ℕ → Fraction) → ℕ → ℕ → Fraction
replaced row put e j = if nat_eq j e then whole (pos 0) else (row j +ℚ row e *ℚ put j)

-- the row of i after the pivot
abbrev pub row_after : (ℕ → Fraction) → (ℕ → Fraction) → ℕ → ℕ → ℕ → ℕ → Fraction
row_after row put r e i j = if nat_eq i e then put j else (if nat_eq i r then whole (pos 0) else replaced row put e j)

-- the cells after the pivot
abbrev pub pivoted : (ℕ → ℕ → Fraction) → ℕ → ℕ → ℕ → ℕ → Fraction
pivoted cells r e i j = row_after (cells i) (solved (cells r) r e) r e i j

-- t after r left the basis and e entered it
pub record IsPivoted (t : Table) (r e : ℕ) (after : Table) : Type 0 where
  pub same_width : width after ≡ width t
  pub leaves : is_basic after r ≡ false
  pub enters : IsTrue (is_basic after e)
  pub stays : (i : ℕ) → i ≢ r → i ≢ e → is_basic after i ≡ is_basic t i
  pub cells : (i j : ℕ) → i < width t → j < width t → cell after i j ≡ pivoted (cell t) r e i j

-- ---- its named operations

-- a quotient of the solved row, or a product or a sum of another row
pub data Step : Type 0 where
  Share : ℕ → Step
  Multiple : ℕ → ℕ → Step
  Sum : ℕ → ℕ → Step

abbrev pub operation : (ℕ → ℕ → Fraction) → ℕ → ℕ → Step → Wide
operation cells r e (Share j) = dividing (share (cells r) r j) (cells r e)
operation cells r e (Multiple i j) = multiplying (cells i e) (solved (cells r) r e j)
operation cells r e (Sum i j) = adding (cells i j) (cells i e *ℚ solved (cells r) r e j)

-- which of them are made: none on a cell that is 0, which never passes
abbrev pub IsMade : (ℕ → ℕ → Fraction) → ℕ → ℕ → ℕ → Step → Type 0
IsMade cells n r e (Share j) = (j < n) × (j ≢ e) × (share (cells r) r j ≢ whole (pos 0))
IsMade cells n r e (Multiple i j) = (i < n) × (i ≢ r) × (cells i e ≢ whole (pos 0)) × (j < n) × (j ≢ e) × (solved (cells r) r e j ≢ whole (pos 0))
IsMade cells n r e (Sum i j) = (i < n) × (i ≢ r) × (cells i e ≢ whole (pos 0)) × (j < n) × (j ≢ e) × (solved (cells r) r e j ≢ whole (pos 0))

-- each operation that is made fits
abbrev pub PivotFits : (ℕ → ℕ → Fraction) → ℕ → ℕ → ℕ → Type 0
PivotFits cells n r e = (s : Step) → IsMade cells n r e s → FitsAt (operation cells r e s)

-- w is one of them, and passes
abbrev pub PivotPasses : (ℕ → ℕ → Fraction) → ℕ → ℕ → ℕ → Wide → Type 0
PivotPasses cells n r e w = (s : Step) × IsMade cells n r e s × (w ≡ operation cells r e s) × PassesAt w

-- ---- what a pivot answers

-- all of them fit, and the tableau after it has the same solutions
pub record Pivots (t : Table) (r e : ℕ) (after : Table) : Type 0 where
  pub fits : PivotFits (cell t) (width t) r e
  pub pivoted : IsPivoted t r e after
  pub tidy : IsTidy after
  pub same : (point : ℕ → Fraction) → Solves t point ↔ Solves after point

-- or one passes, and nothing changed
abbrev pub PivotAnswers : Table → ℕ → ℕ → Table → Result (Unit {0}) Wide → Type 0
PivotAnswers t r e after (Ok _) = Pivots t r e after
PivotAnswers t r e after (Err w) = PivotPasses (cell t) (width t) r e w × (after ≡ t)
