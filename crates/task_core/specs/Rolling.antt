-- Steps of one action in turn, one by one and at once (this project, after Cardellini, Giunchiglia and Maratea 2024).
use Rattle.std.specs.Prelude.{ℕ, zero, suc}
use Rattle.task_core.specs.declared.action.GAction.{GAction}
use Rattle.task_core.specs.State.{State}
use Rattle.task_core.specs.Step.{after, truth_after, value_after}
use Rattle.task_core.specs.Growth.{grown}

-- the state after n steps of the action
abbrev pub repeated : ℕ → GAction → State → State
repeated zero a s = s
repeated (suc n) a s = repeated n a (after a s)

-- the same at once, for a rollable action: one step, and then the increments of the others
abbrev pub rolled : ℕ → GAction → State → State
rolled zero a s = s
rolled (suc n) a s = record { truth = truth_after a s; value = grown a.incs n (value_after a s) }
