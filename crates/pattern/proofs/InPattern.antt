-- A reachable state lies in a layer; so each action that has its step there stands in the pattern.
use Rattle.std.proofs.Common.{ℕ, suc, ◌<◌, List, [], ◌∷◌, map, length, subst}
use Rattle.std.specs.List.{AllByRecursion, Contains}
use Rattle.task_core.specs.State.{State}
use Rattle.task_core.specs.Step.{Holds, after}
use Rattle.task_core.specs.Task.{GroundParts, start, idle, action_at, IsGroundTask}
use Rattle.task_core.specs.Plan.{Run}
use Rattle.relaxed.specs.Layers.{layer}
use Rattle.relaxed.specs.InLayer.{InLayer}
use Rattle.relaxed.proofs.Supported.{step-supported}
use Rattle.relaxed.proofs.Steps.{start-inside, step-inside}
use Rattle.pattern.specs.Pattern.{IsPattern}
use Rattle.pattern.specs.Reachable.{IsReachable}

module _ (task : GroundParts) (promised : IsGroundTask task) where
  run_inside : (plan : List ℕ) (s t : State) (m : ℕ) → InLayer task (layer task m) s → AllByRecursion (λ n. n < length task.actions) plan → Run s (map (action_at task) plan) t
      → (n : ℕ) × InLayer task (layer task n) t
  run_inside [] s t m inside below run = (m, subst (InLayer task (layer task m)) run inside)
  run_inside (n ∷ plan) s t m inside below run =
      run_inside plan (after (action_at task n) s) t (suc m) (step-inside task (layer task m) s n below.0 (promised.actions n idle below.0) inside run.0) below.1 run.1

  module _ (ps : List ℕ) (p : IsPattern task ps) where
    step_in : (m n : ℕ) (s : State) → InLayer task (layer task m) s → n < length task.actions → Holds (action_at task n) s → Contains ps n
    step_in m n s inside below h = (p.supported n).1 (below, (m, step-supported task (layer task m) s inside (action_at task n) (promised.actions n idle below) h))

    pub reachable-step-in : (s : State) (n : ℕ) → IsReachable task s → n < length task.actions → Holds (action_at task n) s → Contains ps n
    reachable-step-in s n r below h =
        let i = run_inside r.actions (start task) s 0 (start-inside task) r.numbered r.run in
        step_in i.0 n s i.1 below h

    run_in : (plan : List ℕ) (s t : State) (m : ℕ) → InLayer task (layer task m) s → AllByRecursion (λ n. n < length task.actions) plan → Run s (map (action_at task) plan) t
        → AllByRecursion (λ n. Contains ps n) plan
    run_in [] s t m inside below run = tt
    run_in (n ∷ plan) s t m inside below run = (
      step_in m n s inside below.0 run.0,
      run_in plan (after (action_at task n) s) t (suc m) (step-inside task (layer task m) s n below.0 (promised.actions n idle below.0) inside run.0) below.1 run.1,
    )

    -- each action of a run from the start
    pub run-in : (plan : List ℕ) (t : State) → AllByRecursion (λ n. n < length task.actions) plan → Run (start task) (map (action_at task) plan) t → AllByRecursion (λ n. Contains ps n) plan
    run-in plan t below run = run_in plan (start task) t 0 (start-inside task) below run
