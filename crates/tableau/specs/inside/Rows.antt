-- What the steps of a pivot on one row answer.
use Rattle.std.specs.Prelude.{◌≡◌, ◌≢◌, ◌⊎◌, ℕ, ◌<◌, Result, Ok, Err}
use lib.IntN.{pos}
use Rattle.rational.specs.Fraction.{Fraction, whole, ◌*ℚ◌}
use Rattle.frac128.specs.declared.operations.Wide.{Wide}
use Rattle.lin.specs.Operations.{adding, multiplying, dividing}
use Rattle.tableau.specs.Named.{FitsAt, PassesAt}
use Rattle.tableau.specs.Pivot.{share, solved, replaced}

-- ---- a row solved
abbrev pub sharing : (ℕ → Fraction) → ℕ → ℕ → ℕ → Wide
sharing row r e j = dividing (share row r j) (row e)

abbrev pub ShareAnswers : (ℕ → Fraction) → ℕ → ℕ → ℕ → Result Fraction Wide → Type 0
ShareAnswers row r e j (Ok x) = (j ≢ e → share row r j ≢ whole (pos 0) → FitsAt (sharing row r e j)) × (x ≡ solved row r e j)
ShareAnswers row r e j (Err w) = (j ≢ e) × (share row r j ≢ whole (pos 0)) × (w ≡ sharing row r e j) × PassesAt w

abbrev pub SolveAnswers : (ℕ → Fraction) → ℕ → ℕ → ℕ → (ℕ → Fraction) → Result (Unit {0}) Wide → Type 0
SolveAnswers row n r e into (Ok _) =
    ((j : ℕ) → j < n → j ≢ e → share row r j ≢ whole (pos 0) → FitsAt (sharing row r e j)) × ((j : ℕ) → j < n → into j ≡ solved row r e j)
SolveAnswers row n r e into (Err w) = (j : ℕ) × (j < n) × (j ≢ e) × (share row r j ≢ whole (pos 0)) × (w ≡ sharing row r e j) × PassesAt w

-- ---- the solved row put into another
abbrev pub product : (ℕ → Fraction) → (ℕ → Fraction) → ℕ → ℕ → Wide
product row put e j = multiplying (row e) (put j)

abbrev pub sum : (ℕ → Fraction) → (ℕ → Fraction) → ℕ → ℕ → Wide
sum row put e j = adding (row j) (row e *ℚ put j)

abbrev pub BothFit : (ℕ → Fraction) → (ℕ → Fraction) → ℕ → ℕ → Type 0
BothFit row put e j = j ≢ e → put j ≢ whole (pos 0) → FitsAt (product row put e j) × FitsAt (sum row put e j)

abbrev pub EitherPasses : (ℕ → Fraction) → (ℕ → Fraction) → ℕ → ℕ → Wide → Type 0
EitherPasses row put e j w = (j ≢ e) × (put j ≢ whole (pos 0)) × ((w ≡ product row put e j) ⊎ (w ≡ sum row put e j)) × PassesAt w

abbrev pub CellAnswers : (ℕ → Fraction) → (ℕ → Fraction) → ℕ → ℕ → Result Fraction Wide → Type 0
CellAnswers row put e j (Ok x) = BothFit row put e j × (x ≡ replaced row put e j)
CellAnswers row put e j (Err w) = EitherPasses row put e j w

abbrev pub ReplaceAnswers : (ℕ → Fraction) → (ℕ → Fraction) → ℕ → ℕ → (ℕ → Fraction) → Result (Unit {0}) Wide → Type 0
ReplaceAnswers row put n e into (Ok _) = ((j : ℕ) → j < n → BothFit row put e j) × ((j : ℕ) → j < n → into j ≡ replaced row put e j)
ReplaceAnswers row put n e into (Err w) = (j : ℕ) × (j < n) × EitherPasses row put e j w

-- ---- all rows: nothing is computed on a row without a cell at e
abbrev pub RowFits : (ℕ → Fraction) → (ℕ → Fraction) → ℕ → ℕ → Type 0
RowFits row put n e = row e ≢ whole (pos 0) → (j : ℕ) → j < n → BothFit row put e j

abbrev pub RowPasses : (ℕ → Fraction) → (ℕ → Fraction) → ℕ → ℕ → Wide → Type 0
RowPasses row put n e w = (row e ≢ whole (pos 0)) × (j : ℕ) × (j < n) × EitherPasses row put e j w

-- the row of i, which is left out where it is that of r
abbrev pub RowAnswers : (ℕ → Fraction) → (ℕ → Fraction) → ℕ → ℕ → ℕ → ℕ → (ℕ → Fraction) → Result (Unit {0}) Wide → Type 0
RowAnswers row put n r e i into (Ok _) = i ≢ r → RowFits row put n e × ((j : ℕ) → j < n → into j ≡ replaced row put e j)
RowAnswers row put n r e i into (Err w) = (i ≢ r) × RowPasses row put n e w

abbrev pub RowsAnswer : (ℕ → ℕ → Fraction) → (ℕ → Fraction) → ℕ → ℕ → ℕ → (ℕ → ℕ → Fraction) → Result (Unit {0}) Wide → Type 0
RowsAnswer cells put n r e into (Ok _) =
    ((i : ℕ) → i < n → i ≢ r → RowFits (cells i) put n e) × ((i j : ℕ) → i < n → i ≢ r → j < n → into i j ≡ replaced (cells i) put e j)
RowsAnswer cells put n r e into (Err w) = (i : ℕ) × (i < n) × (i ≢ r) × RowPasses (cells i) put n e w
