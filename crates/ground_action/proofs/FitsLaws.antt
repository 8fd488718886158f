-- Each reachable state has the static atoms and functions of the initial one, and each function with an initial value has a
-- value in it.
use Rattle.std.proofs.Common.{◌≡◌, ℕ, zero, suc, Bool, true, false, not, cond, ◌&&◌, ◌||◌, ◌==◌, List, [], ◌∷◌, map, Option, Some, None, refl, sym, ap, ap₂, ◌∙◌}
use Rattle.std.specs.Prelude.{is_some, slice_get, bytes_eq}
use Rattle.std.specs.List.{list_any}
use Rattle.rational.specs.Fraction.{Fraction}
use Rattle.pddl_task.specs.declared.action.Action.{Action}
use Rattle.pddl_task.specs.declared.effect.Effect.{Effect}
use Rattle.pddl_task.specs.declared.effect.Effect.TheVariants as effect
use Rattle.pddl_task.specs.declared.effect.NumOp.{NumOp}
use Rattle.pddl_task.specs.declared.effect.NumOp.TheVariants.{Assign, Increase, Decrease, ScaleUp, ScaleDown}
use Rattle.pddl_task.specs.declared.instance.Instance.{Instance}
use Rattle.pddl_task.specs.declared.parts.TaskParts.{TaskParts}
use Rattle.pddl_task.specs.Task.{changes_pred, changes_func}
use Rattle.plan_step.specs.State.{PlanState, IsSameState, initial}
use Rattle.plan_step.specs.Meaning.{objects_of, Change, put, change, puts, changed_by, value_after, HasStep, Run, ended, stepped}
use Rattle.ground_numbers.specs.declared.named.Named.{Named}
use Rattle.ground_action.specs.Setting.{setting_of}
use Rattle.ground_action.specs.Agrees.{Fits}
use Rattle.ground_action.specs.Leaves.{written}
use Rattle.ground_action.proofs.StepLaws.{shape, shapes}

pub none_at : {A : Type 0} (q : A → Bool) (xs : List A) (i : ℕ) (x : A) → list_any q xs ≡ false → slice_get xs i ≡ Some x → q x ≡ false
none_at q [] i x h g = absurd (cc)
none_at q (y ∷ ys) zero x h g = let e : y ≡ x = cc in sym (ap q e) ∙ first (q y) (list_any q ys) h
  where
    first : (a b : Bool) → (a || b) ≡ false → a ≡ false
    first true b h = absurd (cc)
    first false b h = refl
none_at q (y ∷ ys) (suc i) x h g = none_at q ys i x (second (q y) (list_any q ys) h) g
  where
    second : (a b : Bool) → (a || b) ≡ false → b ≡ false
    second true b h = absurd (cc)
    second false b h = h

both_false : (a b : Bool) → (a || b) ≡ false → (a ≡ false) × (b ≡ false)
both_false true b h = absurd (cc)
both_false false b h = (refl, h)

-- a change of the function, at whatever arguments
is_on : ℕ → Change → Bool
is_on f (put sign p args) = false
is_on f (change op g args by) = g == f

any-shape : (q : Change → Bool) → ((c : Change) → q c ≡ q (shape c)) → (cs : List Change) → list_any q cs ≡ list_any q (map shape cs)
any-shape q h [] = refl
any-shape q h (c ∷ cs) = ap₂ ◌||◌ (h c) (any-shape q h cs)

puts_shape : (w : Bool) (p : ℕ) (others : List ℕ) (c : Change) → puts w p others c ≡ puts w p others (shape c)
unfolding shape
puts_shape w p others (put sign q args) = refl
puts_shape w p others (change op g args by) = refl

on_shape : (f : ℕ) (c : Change) → is_on f c ≡ is_on f (shape c)
unfolding shape is_on
on_shape f (put sign q args) = refl
on_shape f (change op g args by) = refl

and_false : (a b : Bool) → (a && (false && b)) ≡ false
and_false true b = refl
and_false false b = refl

not_put : (w : Bool) (p : ℕ) (others args : List ℕ) (es : List Effect) → list_any (changes_pred p) es ≡ false → list_any (puts w p others) (map (written args) es) ≡ false
not_put w p others args [] h = refl
not_put w p others args (effect.Put sign pred terms ∷ es) h = let hs = both_false (pred == p) _ h in
    ap₂ ◌||◌ (ap (λ t. (cond w sign (not sign)) && (t && bytes_eq (objects_of args terms) others)) hs.0 ∙ and_false (cond w sign (not sign)) (bytes_eq (objects_of args terms) others)) (not_put w p others args es hs.1)
not_put w p others args (effect.Change op func terms by ∷ es) h = not_put w p others args es h

not_on : (f : ℕ) (args : List ℕ) (es : List Effect) → list_any (changes_func f) es ≡ false → list_any (is_on f) (map (written args) es) ≡ false
unfolding is_on
not_on f args [] h = refl
not_on f args (effect.Put sign pred terms ∷ es) h = not_on f args es h
not_on f args (effect.Change op func terms by ∷ es) h = let hs = both_false (func == f) _ h in ap₂ ◌||◌ hs.0 (not_on f args es hs.1)

value_stays : (f : ℕ) (others : List ℕ) (cs : List Change) (o : Option Fraction) → list_any (is_on f) cs ≡ false → value_after cs f others o ≡ o
unfolding is_on
value_stays f others [] o h = refl
value_stays f others (put sign p args ∷ cs) o h = value_stays f others cs o h
value_stays f others (change op g args by ∷ cs) o h = let hs = both_false (g == f) _ h in
    ap (λ b. cond (b && bytes_eq args others) (value_after cs f others (changed_by op by o)) (value_after cs f others o)) hs.0 ∙ value_stays f others cs o hs.1

some_changed : (op : NumOp) (by : Fraction) (o : Option Fraction) → is_some o ≡ true → is_some (changed_by op by o) ≡ true
some_changed op by None h = absurd (cc)
some_changed Assign by (Some x) h = refl
some_changed Increase by (Some x) h = refl
some_changed Decrease by (Some x) h = refl
some_changed ScaleUp by (Some x) h = refl
some_changed ScaleDown by (Some x) h = refl

some_stays : (f : ℕ) (others : List ℕ) (cs : List Change) (o : Option Fraction) → is_some o ≡ true → is_some (value_after cs f others o) ≡ true
some_stays f others [] o h = h
some_stays f others (put sign p args ∷ cs) o h = some_stays f others cs o h
some_stays f others (change op g args by ∷ cs) o h =
    by_test (g == f && bytes_eq args others) (some_stays f others cs (changed_by op by o) (some_changed op by o h)) (some_stays f others cs o h)
  where
    by_test : (b : Bool) → is_some (value_after cs f others (changed_by op by o)) ≡ true → is_some (value_after cs f others o) ≡ true → is_some (cond b (value_after cs f others (changed_by op by o)) (value_after cs f others o)) ≡ true
    by_test true x y = x
    by_test false x y = y

as_before : (t : Bool) → (false || (t && not false)) ≡ t
as_before true = refl
as_before false = refl

module _ (task : TaskParts) (atoms funcs : List Named) where
  pub initial_fits : Fits (setting_of task atoms funcs) (initial task)
  initial_fits = record { preds = λ p args h. refl; funcs = λ f args h. refl; valued = λ f args h. h }

  pub step_fits : (s t : PlanState) (by : Instance) → Fits (setting_of task atoms funcs) s → HasStep task s by t → Fits (setting_of task atoms funcs) t
  step_fits s t by fits h =
      let same = shapes s by.args h.action.effs h.changes h.values in
      record {
        preds = λ p args n.
            let es = none_at (λ (a : Action). list_any (changes_pred p) a.effs) task.actions by.action h.action n h.of_action.is_action in
            h.truth p args
            ∙ ap₂ (λ x y. x || (s.truth p args && not y))
            (any-shape (puts true p args) (puts_shape true p args) h.changes ∙ ap (list_any (puts true p args)) same ∙ not_put true p args by.args h.action.effs es)
            (any-shape (puts false p args) (puts_shape false p args) h.changes ∙ ap (list_any (puts false p args)) same ∙ not_put false p args by.args h.action.effs es)
            ∙ as_before (s.truth p args) ∙ fits.preds p args n;
        funcs = λ f args n.
            let es = none_at (λ (a : Action). list_any (changes_func f) a.effs) task.actions by.action h.action n h.of_action.is_action in
            h.value f args
            ∙ value_stays f args h.changes (s.value f args) (any-shape (is_on f) (on_shape f) h.changes ∙ ap (list_any (is_on f)) same ∙ not_on f by.args h.action.effs es)
            ∙ fits.funcs f args n;
        valued = λ f args e. ap is_some (h.value f args) ∙ some_stays f args h.changes (s.value f args) (fits.valued f args e);
      }

  same_fits : (s t : PlanState) → IsSameState s t → Fits (setting_of task atoms funcs) s → Fits (setting_of task atoms funcs) t
  same_fits s t e fits = record {
    preds = λ p args n. sym (e.truth p args) ∙ fits.preds p args n;
    funcs = λ f args n. sym (e.value f args) ∙ fits.funcs f args n;
    valued = λ f args h. sym (ap is_some (e.value f args)) ∙ fits.valued f args h;
  }

  pub run_fits : (s t : PlanState) (plan : List Instance) → Fits (setting_of task atoms funcs) s → Run task s plan t → Fits (setting_of task atoms funcs) t
  run_fits s t [] fits (ended e) = same_fits s t e fits
  run_fits s t (by ∷ more) fits (stepped {t = u} h r) = run_fits u t more (step_fits s u by fits h) r
