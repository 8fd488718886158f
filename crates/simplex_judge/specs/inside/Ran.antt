-- Where the pivots of a check led.
use Rattle.std.specs.Prelude.{◌≡◌, ℕ, length}
use Rattle.tableau.specs.Table.{Table, width}
use Rattle.simplex_law.specs.Config.{Limits, IsStart, pair_at}
use Rattle.simplex_law.specs.declared.pair.Pair.{Pair}
use Rattle.simplex_check.specs.Known.{IsKnown}
use Rattle.simplex_check.specs.Checks.{CheckAnswers}
use Rattle.simplex_judge.specs.declared.running.Ran.{Ran}

pub record IsRan (l : Limits) (first : Table) (pivots : ℕ) (last : Table) (run : Ran) : Type 0 where
  pub first_place : ℕ → Pair
  pub start : IsStart l first first_place
  pub long : length run.place.items ≡ width last
  pub long_known : length run.known.items ≡ width last
  pub known : IsKnown last (pair_at run.place.items) run.known.items
  pub answers : CheckAnswers l first first_place pivots run.swaps.items last (pair_at run.place.items) run.answer
