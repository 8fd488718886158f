-- Rolling: an instance that only grows functions, always by the same amounts, and leaves its literals true (this project, after
-- Cardellini, Giunchiglia and Maratea 2024); and what so many of its steps come to at once.
use Rattle.std.specs.Prelude.{◌≡◌, ◌≢◌, ℕ, zero, suc, Bool, true, not, ◌&&◌, ◌==◌, bytes_eq, List, [], ◌∷◌, pos, if◌then◌else◌}
use Rattle.std.specs.List.{list_all}
use Rattle.std.specs.Option.{option_map}
use Rattle.rational.specs.Fraction.{Fraction, whole, neg_ℚ, ◌+ℚ◌, ◌*ℚ◌}
use Rattle.pddl_task.specs.Linear.{linearity_of}
use Rattle.pddl_task.specs.Task.{is_changing_func}
use Rattle.pddl_task.specs.declared.action.Action.{Action}
use Rattle.pddl_task.specs.declared.condition.Cond.{Cond}
use Rattle.pddl_task.specs.declared.condition.Cond.TheVariants as cond
use Rattle.pddl_task.specs.declared.effect.Effect.{Effect}
use Rattle.pddl_task.specs.declared.effect.Effect.TheVariants as effect
use Rattle.pddl_task.specs.declared.effect.NumOp.{NumOp}
use Rattle.pddl_task.specs.declared.effect.NumOp.TheVariants.{Assign, Increase, Decrease, ScaleUp, ScaleDown}
use Rattle.pddl_task.specs.declared.parts.TaskParts.{TaskParts}
use Rattle.plan_step.specs.State.{PlanState}
use Rattle.plan_step.specs.Meaning.{objects_of, Change, put, change, adds_up, truth_after, signed}

-- an increase or a decrease by an expression that reads no changing function
abbrev pub is_even : (ℕ → Bool) → Effect → Bool
is_even changing (effect.Put sign pred terms) = true
is_even changing (effect.Change op func terms by) = adds_up op && not (linearity_of changing by).reads

-- a literal that holds before the changes holds after them
abbrev pub keeps : List Change → List ℕ → Cond → Bool
keeps changes args (cond.Lit sign pred terms) = signed sign (truth_after changes (λ _ _. sign) pred (objects_of args terms))
keeps changes args (cond.Same sign left right) = true
keeps changes args (cond.Compare rel left right) = true

-- each literal holds; other leaves aren't looked at
abbrev pub literal_holds : PlanState → List ℕ → Cond → Bool
literal_holds state args (cond.Lit sign pred terms) = signed sign (state.truth pred (objects_of args terms))
literal_holds state args (cond.Same sign left right) = true
literal_holds state args (cond.Compare rel left right) = true

-- by how much a step grows a function
abbrev pub amount_of : NumOp → Fraction → Fraction
amount_of Assign by = whole (pos 0)
amount_of Increase by = by
amount_of Decrease by = neg_ℚ by
amount_of ScaleUp by = whole (pos 0)
amount_of ScaleDown by = whole (pos 0)

abbrev pub growth : List Change → ℕ → List ℕ → Fraction
growth [] f args = whole (pos 0)
growth (put sign p others ∷ more) f args = growth more f args
growth (change op g others by ∷ more) f args = if g == f && bytes_eq others args then amount_of op by +ℚ growth more f args else growth more f args

-- an instance that rolls, whose step changes this
pub record IsRollable (task : TaskParts) (action : Action) (args : List ℕ) (changes : List Change) : Type 0 where
  pub even : list_all (is_even (is_changing_func task.actions)) action.effs ≡ true
  pub keeps_literals : list_all (keeps changes args) action.conds ≡ true
  pub func : ℕ
  pub objects : List ℕ
  pub grows : growth changes func objects ≢ whole (pos 0)

-- the state after n steps at once
abbrev pub rolled : List Change → PlanState → ℕ → PlanState
rolled changes s zero = s
rolled changes s (suc n) = record {
  truth = truth_after changes s.truth;
  value = λ f args. option_map (λ x. x +ℚ whole (pos (suc n)) *ℚ growth changes f args) (s.value f args);
}
