-- Runs and valid plans of a ground task (PDDL 2.1, level 2), and when a word of n copies is one.
use Rattle.std.specs.Prelude.{◌≡◌, ℕ, ◌<◌, Bool, List, [], ◌∷◌, map, length}
use Rattle.std.specs.List.{AllByRecursion}
use Rattle.task_core.specs.declared.action.GAction.{GAction}
use Rattle.task_core.specs.State.{State}
use Rattle.task_core.specs.Step.{Holds, after, is_rollable}
use Rattle.task_core.specs.Task.{GroundParts, start, action_at}
use Rattle.task_core.specs.Words.{IsWord}

-- the actions have their steps in turn, from s to t
abbrev pub Run : State → List GAction → State → Type 0
Run s [] t = s ≡ t
Run s (a ∷ more) t = Holds a s × Run (after a s) more t

-- action numbers that have a run from the start to a state in which the goal holds
pub record IsValidPlan (task : GroundParts) (plan : List ℕ) : Type 0 where
  pub numbered : AllByRecursion (λ n. n < length task.actions) plan
  pub end : State
  pub run : Run (start task) (map (action_at task) plan) end
  pub goal : Holds task.goal end

abbrev pub rolls : GroundParts → ℕ → Bool
rolls task n = is_rollable (action_at task n)

-- some word of n copies of the pattern is a valid plan
pub record Reaches (task : GroundParts) (pattern : List ℕ) (n : ℕ) : Type 0 where
  pub plan : List ℕ
  pub word : IsWord (rolls task) pattern n plan
  pub valid : IsValidPlan task plan
