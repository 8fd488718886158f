-- The laws, of the instances and the goal of a task.
use Rattle.std.proofs.Common.{◌≡◌, ℕ, zero, suc, Bool, true, false, not, cond, ◌||◌, List, [], ◌∷◌, ◌++◌, map, Some, refl, sym, ap, subst, ◌∙◌, eq-eqb}
use Rattle.std.specs.Prelude.{is_some, slice_get, pos, ◌↔◌}
use Rattle.std.specs.List.{list_all, list_any}
use Rattle.std.proofs.lemmas.Bool.{and_parts, and_from}
use Rattle.std.proofs.lemmas.List.Folds.{list_any-append}
use Rattle.rational.specs.Fraction.{whole}
use Rattle.pddl_task.specs.declared.action.Action.{Action}
use Rattle.pddl_task.specs.declared.effect.Effect.{Effect}
use Rattle.pddl_task.specs.declared.effect.Effect.TheVariants as effect
use Rattle.pddl_task.specs.declared.instance.Instance.{Instance}
use Rattle.pddl_task.specs.declared.parts.TaskParts.{TaskParts}
use Rattle.pddl_task.specs.Task.{changes_pred, changes_func, is_changing_func}
use Rattle.pddl_task.specs.Linear.{is_linear_action, IsLinear}
use Rattle.plan_step.specs.State.{PlanState, initial}
use Rattle.plan_step.specs.Meaning.{all_hold, IsInstanceOf, HasStep}
use Rattle.task_core.specs.State.{State}
use Rattle.task_core.specs.Step.{Holds, is_rollable}
use Rattle.ground_numbers.specs.declared.named.Named.{Named}
use Rattle.ground_numbers.specs.Numbers.{same, is_listed}
use Rattle.ground_action.specs.Setting.{atom, valued, same_proposition, Setting, setting_of, missing, value_in}
use Rattle.ground_action.specs.Leaves.{Move, puts_atom, acts}
use Rattle.ground_action.specs.GroundAction.{leaves_of, moves_of, ground_action, is_kept, is_numbered, is_target_numbered, goal_leaves, ground_goal}
use Rattle.ground_action.specs.Agrees.{Fits, Agrees}
use Rattle.ground_action.specs.Rolls.{rolls}
use Rattle.ground_action.specs.Laws.{IsGroundStep}
use Rattle.ground_action.proofs.Tests.{ready_holds, holds_ready}
use Rattle.ground_action.proofs.Groundable.{ActionStep, target_changes, IsGroundable}
use Rattle.ground_action.proofs.EffectLaws.{same_sound}
use Rattle.ground_action.proofs.LinearLaws.{linear_at, goal_clear}
use Rattle.ground_action.proofs.StepLaws.{step_is_kept, step_grounded, ground_stepped, state_after}
use Rattle.ground_action.proofs.ShapeLaws.{same_kept}
use Rattle.ground_action.proofs.GoalLaws.{goal_grounded}
use Rattle.ground_action.proofs.RollLaws.{acts_on, rolls_is}

-- ---- one of a list
all_at : {A : Type 0} (p : A → Bool) (xs : List A) (i : ℕ) (x : A) → list_all p xs ≡ true → slice_get xs i ≡ Some x → p x ≡ true
all_at p [] i x h g = absurd (cc)
all_at p (y ∷ ys) zero x h g = let e : y ≡ x = cc in sym (ap p e) ∙ (and_parts _ _ h).0
all_at p (y ∷ ys) (suc i) x h g = all_at p ys i x (and_parts _ _ h).1 g

or_right : (a b : Bool) → b ≡ true → (a || b) ≡ true
or_right true b h = refl
or_right false b h = h

any_at : {A : Type 0} (p : A → Bool) (xs : List A) (i : ℕ) (x : A) → slice_get xs i ≡ Some x → p x ≡ true → list_any p xs ≡ true
any_at p [] i x g h = absurd (cc)
any_at p (y ∷ ys) zero x g h = let e : y ≡ x = cc in ap (λ t. t || list_any p ys) (ap p e ∙ h)
any_at p (y ∷ ys) (suc i) x g h = or_right (p y) _ (any_at p ys i x g h)

each_at : {A : Type 0} (p : A → Bool) (xs : List A) → ((i : ℕ) (x : A) → slice_get xs i ≡ Some x → p x ≡ true) → list_all p xs ≡ true
each_at p [] h = refl
each_at p (x ∷ xs) h = and_from _ _ (h 0 x refl) (each_at p xs (λ i y g. h (suc i) y g))

-- ---- a function without an initial value has its proposition
listed_missing : (start : PlanState) (k : Named) (fs : List Named) → is_listed same fs k ≡ true → is_some (value_in start k) ≡ false → is_listed same_proposition (map valued (missing start fs)) (valued k) ≡ true
listed_missing start k [] l n = absurd (cc)
listed_missing start k (f ∷ fs) l n = by_test (same f k) refl l (is_some (value_in start f)) refl (λ l. listed_missing start k fs l n)
  where
    by_test : (b : Bool) → same f k ≡ b → (b || is_listed same fs k) ≡ true → (v : Bool) → is_some (value_in start f) ≡ v
        → (is_listed same fs k ≡ true → is_listed same_proposition (map valued (missing start fs)) (valued k) ≡ true)
        → is_listed same_proposition (map valued (cond (not v) (f ∷ missing start fs) (missing start fs))) (valued k) ≡ true
    by_test true e l true w ih = let t : is_some (value_in start k) ≡ true = sym (ap (λ j. is_some (value_in start j)) (same_sound f k e)) ∙ w in absurd (cc)
    by_test true e l false w ih = ap (λ t. t || is_listed same_proposition (map valued (missing start fs)) (valued k)) e
    by_test false e l true w ih = ih l
    by_test false e l false w ih = or_right (same f k) _ (ih l)

targets_numbered : (set : Setting) (ms : List Move) → list_all (is_target_numbered set) ms ≡ true → list_all (acts_on (λ k. is_listed same set.funcs k)) ms ≡ true
targets_numbered set [] h = refl
targets_numbered set (puts_atom sign k ∷ ms) h = targets_numbered set ms (and_parts _ _ h).1
targets_numbered set (acts k a ∷ ms) h = and_from _ _ (and_parts _ _ h).0 (targets_numbered set ms (and_parts _ _ h).1)

-- ---- any setting of a task
pub rollable_is : (set : Setting) (a : Action) (args : List ℕ) → is_numbered set (leaves_of set a args) (moves_of set a args) ≡ true
    → rolls (leaves_of set a args) (moves_of set a args) ≡ is_rollable (ground_action set a args)
unfolding ground_action
rollable_is set a args h = let hs = and_parts _ _ (and_parts _ _ h).1 in rolls_is set (leaves_of set a args) (moves_of set a args) (targets_numbered set (moves_of set a args) hs.1) hs.0

module _ (task : TaskParts) (atoms funcs : List Named) where
  abbrev set : Setting
  set = setting_of task atoms funcs

  pub kept_unnumbered : (a : Action) (args : List ℕ) → is_kept (setting_of task [] []) a args ≡ is_kept set a args
  kept_unnumbered a args = same_kept (setting_of task [] []) funcs (map atom atoms ++ map valued (missing (initial task) funcs)) args a

  has_proposition : (k : Named) → is_listed same funcs k ≡ true → is_some (value_in (initial task) k) ≡ false → is_listed same_proposition (map atom atoms ++ map valued (missing (initial task) funcs)) (valued k) ≡ true
  has_proposition k l n = list_any-append (λ y. same_proposition y (valued k)) (map atom atoms) (map valued (missing (initial task) funcs)) ∙ or_right _ _ (listed_missing (initial task) k funcs l n)

  module _ (line : IsLinear task) where
    module _ (by : Instance) (a : Action) (is : IsInstanceOf task by a) where
      same_action : (b : Action) → IsInstanceOf task by b → b ≡ a
      same_action b i = let e : Some b ≡ Some a = sym i.is_action ∙ is.is_action in cc

      line_action : is_linear_action (is_changing_func task.actions) a ≡ true
      line_action = all_at (is_linear_action (is_changing_func task.actions)) task.actions by.action a line.actions is.is_action

      effect_changes : (i : ℕ) (e : Effect) → slice_get a.effs i ≡ Some e → target_changes set e ≡ true
      effect_changes i (effect.Put sign pred terms) g =
          any_at (λ (b : Action). list_any (changes_pred pred) b.effs) task.actions by.action a is.is_action (any_at (changes_pred pred) a.effs i (effect.Put sign pred terms) g (eq-eqb pred pred refl))
      effect_changes i (effect.Change op func terms by_) g =
          any_at (λ (b : Action). list_any (changes_func func) b.effs) task.actions by.action a is.is_action (any_at (changes_func func) a.effs i (effect.Change op func terms by_) g (eq-eqb func func refl))

      as_step : (s t : PlanState) → HasStep task s by t → ActionStep a by.args s t
      as_step s t h =
          let P : Action → Type 0 = λ b. ActionStep b by.args s t in
          subst P (same_action h.action h.of_action) (record { conditions = h.conditions; changes = h.changes; values = h.values; clean = h.clean; truth = h.truth; value = h.value })

      of_step : (s t : PlanState) → ActionStep a by.args s t → HasStep task s by t
      of_step s t h = record { action = a; of_action = is; conditions = h.conditions; changes = h.changes; values = h.values; clean = h.clean; truth = h.truth; value = h.value }

      no_numbers : State
      no_numbers = record { truth = λ n. false; value = λ n. whole (pos 0) }

      nothing_numbered : (s : PlanState) → Agrees (setting_of task [] []) s no_numbers
      nothing_numbered s = record { truths = λ n x e. absurd (cc); values = λ n k e. absurd (cc) }

      pub kept_where_step : (s t : PlanState) → Fits set s → HasStep task s by t → is_kept set a by.args ≡ true
      kept_where_step s t fits h = sym (kept_unnumbered a by.args)
          ∙ step_is_kept (setting_of task [] []) a by.args (linear_at (setting_of task [] []) by.args a line_action) s no_numbers (record { preds = fits.preds; funcs = fits.funcs; valued = fits.valued }) (nothing_numbered s) t (as_step s t h)

      module _ (numbered : is_numbered set (leaves_of set a by.args) (moves_of set a by.args) ≡ true) where
        groundable : IsGroundable set a by.args
        groundable = record {
          linear = linear_at set by.args a line_action;
          targets = each_at (target_changes set) a.effs effect_changes;
          numbered = λ k. numbered;
          valued = has_proposition;
        }

        pub step_to_ground : (s t : PlanState) (g : State) → Fits set s → Agrees set s g → HasStep task s by t → IsGroundStep set a by.args g t
        step_to_ground s t g fits agrees h = step_grounded set a by.args groundable s g fits agrees t (as_step s t h)

        pub ground_to_step : (s : PlanState) (g : State) → Fits set s → Agrees set s g → is_kept set a by.args ≡ true → Holds (ground_action set a by.args) g
            → (t : PlanState) × (HasStep task s by t × IsGroundStep set a by.args g t)
        ground_to_step s g fits agrees kept h =
            let next = state_after set a by.args groundable s g fits agrees in
            let step = ground_stepped set a by.args groundable s g fits agrees kept (holds_ready (ground_action set a by.args) g h) in
            (next, (of_step s next step, step_grounded set a by.args groundable s g fits agrees next step))

    pub goal_to_ground : (s : PlanState) (g : State) → is_numbered set (goal_leaves set task.goal) [] ≡ true → Fits set s → Agrees set s g → (all_hold s [] task.goal ≡ true) ↔ Holds (ground_goal set task.goal) g
    goal_to_ground s g numbered fits agrees =
        let e = goal_grounded set s g fits agrees task.goal (goal_clear set [] task.goal line.goal) numbered has_proposition in
        ((λ h. ready_holds (ground_goal set task.goal) g (sym e ∙ h)), (λ h. e ∙ holds_ready (ground_goal set task.goal) g h))
