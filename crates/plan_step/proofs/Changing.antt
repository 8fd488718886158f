-- A function that the task doesn't have isn't a changing one.
use Rattle.std.proofs.Common.{◌≡◌, ℕ, ◌<◌, ◌≤◌, Bool, true, false, ◌||◌, List, [], ◌∷◌, length, ◌==◌, refl, sym, ◌∙◌, arith}
use Rattle.std.specs.Prelude.{nat_lt}
use Rattle.std.specs.List.{list_any, list_all}
use Rattle.std.proofs.lemmas.Bool.{and_parts, eqb-true}
use Rattle.std.proofs.lemmas.Bool.Decides.{nat_tests}
use Rattle.pddl_task.specs.Numbers.{Counts, counts_of, is_call, are_terms, is_expression, is_condition, is_effect, are_types, is_action, IsNumbered}
use Rattle.pddl_task.specs.Task.{changes_func, is_changing_func}
use Rattle.pddl_task.specs.declared.action.Action.{Action}
use Rattle.pddl_task.specs.declared.effect.Effect.{Effect}
use Rattle.pddl_task.specs.declared.effect.Effect.TheVariants as effect
use Rattle.pddl_task.specs.declared.parts.TaskParts.{TaskParts}

true-below : (m n : ℕ) → nat_lt m n ≡ true → m < n
true-below m n h = grind (arith, nat_tests)

apart : (f g n : ℕ) (b : Bool) → (g == f) ≡ b → nat_lt g n ≡ true → n ≤ f → b ≡ false
apart f g n true e h l = let same : g ≡ f = eqb-true g f e in let below : g < n = true-below g n h in absurd (omega arith)
apart f g n false e h l = refl

none_of_both : (a b : Bool) → a ≡ false → b ≡ false → (a || b) ≡ false
none_of_both true b h e = absurd (cc)
none_of_both false b h e = e

module _ (counts : Counts) (f : ℕ) (past : counts.funcs ≤ f) where
  effect-apart : (n : ℕ) (e : Effect) → is_effect counts n e ≡ true → changes_func f e ≡ false
  effect-apart n (effect.Put sign p terms) h = refl
  effect-apart n (effect.Change op g terms by) h =
      let call = (and_parts (is_call counts n counts.funcs g terms) (is_expression counts n by) h).0 in
      apart f g counts.funcs (g == f) refl (and_parts (nat_lt g counts.funcs) (are_terms counts n terms) call).0 past

  effects-apart : (n : ℕ) (effs : List Effect) → list_all (is_effect counts n) effs ≡ true → list_any (changes_func f) effs ≡ false
  effects-apart n [] h = refl
  effects-apart n (e ∷ effs) h =
      let b = and_parts (is_effect counts n e) (list_all (is_effect counts n) effs) h in
      none_of_both (changes_func f e) (list_any (changes_func f) effs) (effect-apart n e b.0) (effects-apart n effs b.1)

  actions-apart : (actions : List Action) → list_all (is_action counts) actions ≡ true → is_changing_func actions f ≡ false
  actions-apart [] h = refl
  actions-apart (a ∷ actions) h =
      let b = and_parts (is_action counts a) (list_all (is_action counts) actions) h in
      let effs = (and_parts (list_all (is_condition counts (length a.params)) a.conds) (list_all (is_effect counts (length a.params)) a.effs) (and_parts (are_types counts a.params) _ b.0).1).1 in
      none_of_both (list_any (changes_func f) a.effs) (is_changing_func actions f) (effects-apart (length a.params) a.effs effs) (actions-apart actions b.1)

not-changing : (task : TaskParts) → IsNumbered task → (f : ℕ) → length task.funcs ≤ f → false ≡ is_changing_func task.actions f
not-changing task numbered f past = sym (actions-apart (counts_of task) f past task.actions numbered.actions)

not_below : (m n : ℕ) → n ≤ m → nat_lt m n ≡ false
not_below m n h = grind (arith, nat_tests)

pub past-call : (task : TaskParts) → IsNumbered task → (f n : ℕ) → n ≡ length task.funcs → n ≤ f → nat_lt f n ≡ is_changing_func task.actions f
past-call task numbered f n is past = not_below f n past ∙ not-changing task numbered f (omega arith)
