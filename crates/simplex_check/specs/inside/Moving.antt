-- How known values move.
use Rattle.std.specs.Prelude.{◌≡◌, ℕ, ◌<◌, IsTrue, List, Option, Result, Ok, Err}
use Rattle.frac128.specs.declared.operations.Wide.{Wide}
use Rattle.tableau.specs.Table.{Table, cell, is_basic}
use Rattle.simplex_law.specs.Pairs.{plus_multiple}
use Rattle.simplex_law.specs.Config.{row_pair}
use Rattle.simplex_law.specs.declared.pair.Pair.{Pair}
use Rattle.simplex_check.specs.Value.{PairPasses}
use Rattle.simplex_check.specs.Known.{Says, known_at}

abbrev pub ValueAnswers : Table → (ℕ → Pair) → ℕ → Result Pair Wide → Type 0
ValueAnswers t place r (Ok x) = x ≡ row_pair t place r
ValueAnswers t place r (Err w) = PairPasses t place r w

-- a basic value moves by a multiple of the way
abbrev pub MovesAt : Table → ℕ → Option Pair → ℕ → Option Pair → Option Pair → Type 0
MovesAt t r way i before after = IsTrue (is_basic t i) → (x d : Pair) → Says before x → Says way d → Says after (plus_multiple x (cell t i r) d)

-- those below n
abbrev pub Moves : Table → ℕ → Option Pair → ℕ → List (Option Pair) → List (Option Pair) → Type 0
Moves t r way n before after = (i : ℕ) → i < n → MovesAt t r way i (known_at before i) (known_at after i)
