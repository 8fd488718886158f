-- Occurrences one after the other, and the goal behind them.
use Rattle.std.specs.Prelude.{◌≡◌, ℕ, suc, List, [], ◌∷◌, ◌++◌, length, map, Result, IfOk}
use Rattle.lin.specs.declared.failure.LinFail.{LinFail}
use Rattle.task_core.specs.declared.action.GAction.{GAction}
use Rattle.task_core.specs.Task.{GroundParts, action_at}
use Rattle.formula.specs.Contents.{Contents}
use Rattle.encode_rows.specs.declared.symbols.Symbols.{Symbols}
use Rattle.encode_laws.specs.Rows.{Item}
use Rattle.encode_laws.specs.Symbolic.{Symbolic, occurrence, symbolic_after, goal_rows}
use Rattle.encode_laws.specs.Made.{Made, made_from}
use Rattle.encode_rows.specs.Standing.{Stands, Makes}
use Rattle.encode_rows.specs.Symbols.{Shows}
use Rattle.encode.specs.inside.Occurring.{IsNext}

-- the rows of actions in a row, from occurrence i on, without the goal
abbrev pub occurrences_from : ℕ → List GAction → Symbolic → List Item
occurrences_from i [] y = []
occurrences_from i (a ∷ more) y = occurrence i a y ++ occurrences_from (suc i) more (symbolic_after i a y)

abbrev pub symbolic_behind : ℕ → List GAction → Symbolic → Symbolic
symbolic_behind i [] y = y
symbolic_behind i (a ∷ more) y = symbolic_behind (suc i) more (symbolic_after i a y)

abbrev pub number_behind : ℕ → List GAction → ℕ
number_behind i [] = i
number_behind i (a ∷ more) = number_behind (suc i) more

abbrev pub OccurInTurn : {X : Type 0} → List GAction → Contents → Symbols → Contents → Symbols → Result X LinFail → Type 0
OccurInTurn acts old s new t r = (m : Made) (i : ℕ) (y : Symbolic) → IsNext i m y old s
    → Makes (occurrences_from i acts y) m new r × IfOk r (λ _. IsNext (number_behind i acts) (made_from (occurrences_from i acts y) m) (symbolic_behind i acts y) new t)

-- a truth for each atom and a value for each function of the task
pub record IsSizedFor (task : GroundParts) (s : Symbols) : Type 0 where
  pub truths : length s.truths ≡ length task.atoms
  pub values : length s.values ≡ length task.funcs

abbrev pub actions_of : GroundParts → List ℕ → List GAction
actions_of task places = map (action_at task) places

-- ---- the goal
abbrev pub MakesGoal : {X : Type 0} → GAction → Contents → Symbols → Contents → Result X LinFail → Type 0
MakesGoal goal old s new r = (m : Made) (y : Symbolic) → Stands m old → Shows m y s → Makes (goal_rows goal y) m new r

-- all occurrences and the goal
abbrev pub MakesAll : {X : Type 0} → List GAction → GAction → Contents → Symbols → Contents → Result X LinFail → Type 0
MakesAll acts goal old s new r = (m : Made) (i : ℕ) (y : Symbolic) → IsNext i m y old s → Makes (occurrences_from i acts y ++ goal_rows goal (symbolic_behind i acts y)) m new r
