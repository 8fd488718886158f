-- What an expression names, by its parts; and a predicate or a function that a task doesn't have doesn't change.
use Rattle.std.proofs.Common.{◌≡◌, ℕ, ◌<◌, ◌≤◌, Bool, true, false, ◌&&◌, ◌||◌, ◌==◌, List, [], ◌∷◌, ◌++◌, map, length, refl, sym, ap, ap₂, ◌∙◌, arith}
use Rattle.std.specs.Prelude.{nat_lt}
use Rattle.std.specs.List.{list_all, list_any, flat_map}
use Rattle.std.proofs.lemmas.Bool.{and_parts, eqb-true}
use Rattle.std.proofs.lemmas.Bool.Decides.{nat_tests}
use Rattle.std.proofs.lemmas.List.Folds.{flat_map-map}
use Rattle.rational.specs.Fraction.{Fraction}
use Rattle.pddl_task.specs.Numbers.{Counts, counts_of, are_terms, is_condition, is_effect, are_types, is_action, IsNumbered}
use Rattle.pddl_task.specs.Task.{changes_pred, is_changing_pred, is_changing_func}
use Rattle.pddl_task.specs.declared.action.Action.{Action}
use Rattle.pddl_task.specs.declared.effect.Effect.{Effect}
use Rattle.pddl_task.specs.declared.effect.Effect.TheVariants as effect
use Rattle.pddl_task.specs.declared.expression.Term.{Term}
use Rattle.pddl_task.specs.declared.expression.Expr.{Expr}
use Rattle.pddl_task.specs.declared.expression.Expr.TheVariants as expr
use Rattle.pddl_task.specs.declared.expression.Expr.TheOpen.{Expr-F}
use Rattle.pddl_task.specs.declared.expression.Expr.TheFolds.{fold-Expr, fold-roll-Expr}
use Rattle.pddl_task.specs.declared.parts.TaskParts.{TaskParts}
use Rattle.plan_step.specs.Meaning.{objects_of}
use Rattle.plan_step.proofs.Changing.{past-call}
use Rattle.ground_numbers.specs.declared.named.Named.{Named}
use Rattle.ground_numbers.specs.Numbers.{named}
use Rattle.ground_walk.specs.Sightings.{joined, if_changing, names_step, names_of}
use Rattle.ground_seen.specs.Seen.{seen}

module _ (task : TaskParts) (args : List ℕ) where
  abbrev folded : Expr → List Named
  folded = fold-Expr (List Named) (names_step task args)

  pub names-num : (n : Fraction) → names_of task args (expr.Num n) ≡ []
  unfolding names_of
  names-num n = ap folded (sym (expr.rolls-Num n)) ∙ fold-roll-Expr (List Named) (names_step task args) (Expr-F.Num n)

  pub names-call : (func : ℕ) (terms : List Term) → names_of task args (expr.Call func terms) ≡ if_changing (is_changing_func task.actions func) (named func (objects_of args terms))
  unfolding names_of
  names-call func terms = ap folded (sym (expr.rolls-Call func terms)) ∙ fold-roll-Expr (List Named) (names_step task args) (Expr-F.Call func terms)

  names-add_joined : (parts : List Expr) → names_of task args (expr.Add parts) ≡ joined (map (names_of task args) parts)
  unfolding names_of
  names-add_joined parts = ap folded (sym (expr.rolls-Add parts)) ∙ fold-roll-Expr (List Named) (names_step task args) (Expr-F.Add parts)

  names-mul_joined : (parts : List Expr) → names_of task args (expr.Mul parts) ≡ joined (map (names_of task args) parts)
  unfolding names_of
  names-mul_joined parts = ap folded (sym (expr.rolls-Mul parts)) ∙ fold-roll-Expr (List Named) (names_step task args) (Expr-F.Mul parts)

  pub names-add : (parts : List Expr) → names_of task args (expr.Add parts) ≡ flat_map (names_of task args) parts
  names-add parts = names-add_joined parts ∙ flat_map-map (λ l. l) (names_of task args) parts

  pub names-mul : (parts : List Expr) → names_of task args (expr.Mul parts) ≡ flat_map (names_of task args) parts
  names-mul parts = names-mul_joined parts ∙ flat_map-map (λ l. l) (names_of task args) parts

  pub names-neg : (a : Expr) → names_of task args (expr.Neg a) ≡ names_of task args a
  unfolding names_of
  names-neg a = ap folded (sym (expr.rolls-Neg a)) ∙ fold-roll-Expr (List Named) (names_step task args) (Expr-F.Neg a)

  pub names-sub : (a b : Expr) → names_of task args (expr.Sub a b) ≡ names_of task args a ++ names_of task args b
  unfolding names_of
  names-sub a b = ap folded (sym (expr.rolls-Sub a b)) ∙ fold-roll-Expr (List Named) (names_step task args) (Expr-F.Sub a b)

  pub names-div : (a b : Expr) → names_of task args (expr.Div a b) ≡ names_of task args a ++ names_of task args b
  unfolding names_of
  names-div a b = ap folded (sym (expr.rolls-Div a b)) ∙ fold-roll-Expr (List Named) (names_step task args) (Expr-F.Div a b)

  -- ---- what is seen of an expression, by what is seen of its parts
  module _ (e : Expr) (old new : List Named) where
    by : (d : Expr) (names : List Named) → e ≡ d → names_of task args d ≡ names → new ≡ seen old names → new ≡ seen old (names_of task args e)
    by d names is line h = h ∙ sym (ap (λ (x : Expr). seen old (names_of task args x)) is ∙ ap (seen old) line)

    pub by_num : (n : Fraction) → e ≡ expr.Num n → new ≡ old → new ≡ seen old (names_of task args e)
    by_num n is h = by (expr.Num n) [] is (names-num n) h

    pub by_call : (func : ℕ) (terms items : List Term) → e ≡ expr.Call func terms → items ≡ terms
        → new ≡ seen old (if_changing (is_changing_func task.actions func) (named func (objects_of args items))) → new ≡ seen old (names_of task args e)
    by_call func terms items is same h = by (expr.Call func terms) _ is (names-call func terms) (h ∙ ap (λ ts. seen old (if_changing (is_changing_func task.actions func) (named func (objects_of args ts)))) same)

    pub by_add : (parts items : List Expr) → e ≡ expr.Add parts → items ≡ parts → new ≡ seen old (flat_map (names_of task args) items) → new ≡ seen old (names_of task args e)
    by_add parts items is same h = by (expr.Add parts) _ is (names-add parts) (h ∙ ap (λ (ds : List Expr). seen old (flat_map (names_of task args) ds)) same)

    pub by_mul : (parts items : List Expr) → e ≡ expr.Mul parts → items ≡ parts → new ≡ seen old (flat_map (names_of task args) items) → new ≡ seen old (names_of task args e)
    by_mul parts items is same h = by (expr.Mul parts) _ is (names-mul parts) (h ∙ ap (λ (ds : List Expr). seen old (flat_map (names_of task args) ds)) same)

    pub by_neg : (a d : Expr) → e ≡ expr.Neg a → d ≡ a → new ≡ seen old (names_of task args d) → new ≡ seen old (names_of task args e)
    by_neg a d is same h = by (expr.Neg a) _ is (names-neg a) (h ∙ ap (λ (x : Expr). seen old (names_of task args x)) same)

    pub by_sub : (a b c d : Expr) → e ≡ expr.Sub a b → c ≡ a → d ≡ b → new ≡ seen old (names_of task args c ++ names_of task args d) → new ≡ seen old (names_of task args e)
    by_sub a b c d is same also h = by (expr.Sub a b) _ is (names-sub a b) (h ∙ ap₂ (λ (x y : Expr). seen old (names_of task args x ++ names_of task args y)) same also)

    pub by_div : (a b c d : Expr) → e ≡ expr.Div a b → c ≡ a → d ≡ b → new ≡ seen old (names_of task args c ++ names_of task args d) → new ≡ seen old (names_of task args e)
    by_div a b c d is same also h = by (expr.Div a b) _ is (names-div a b) (h ∙ ap₂ (λ (x y : Expr). seen old (names_of task args x ++ names_of task args y)) same also)

-- ---- a predicate that the task doesn't have
true-below : (m n : ℕ) → nat_lt m n ≡ true → m < n
true-below m n h = grind (arith, nat_tests)

apart : (f g n : ℕ) (b : Bool) → (g == f) ≡ b → nat_lt g n ≡ true → n ≤ f → b ≡ false
apart f g n true e h l = let same : g ≡ f = eqb-true g f e in let below : g < n = true-below g n h in absurd (omega arith)
apart f g n false e h l = refl

none_of_both : (a b : Bool) → a ≡ false → b ≡ false → (a || b) ≡ false
none_of_both true b h e = absurd (cc)
none_of_both false b h e = e

module _ (counts : Counts) (f : ℕ) (past : counts.preds ≤ f) where
  effect-apart : (n : ℕ) (e : Effect) → is_effect counts n e ≡ true → changes_pred f e ≡ false
  effect-apart n (effect.Change op g terms by) h = refl
  effect-apart n (effect.Put sign p terms) h = apart f p counts.preds (p == f) refl (and_parts (nat_lt p counts.preds) (are_terms counts n terms) h).0 past

  effects-apart : (n : ℕ) (effs : List Effect) → list_all (is_effect counts n) effs ≡ true → list_any (changes_pred f) effs ≡ false
  effects-apart n [] h = refl
  effects-apart n (e ∷ effs) h =
      let b = and_parts (is_effect counts n e) (list_all (is_effect counts n) effs) h in
      none_of_both (changes_pred f e) (list_any (changes_pred f) effs) (effect-apart n e b.0) (effects-apart n effs b.1)

  actions-apart : (actions : List Action) → list_all (is_action counts) actions ≡ true → is_changing_pred actions f ≡ false
  actions-apart [] h = refl
  actions-apart (a ∷ actions) h =
      let b = and_parts (is_action counts a) (list_all (is_action counts) actions) h in
      let c = and_parts (are_types counts a.params) (list_all (is_condition counts (length a.params)) a.conds && list_all (is_effect counts (length a.params)) a.effs) b.0 in
      let d = and_parts (list_all (is_condition counts (length a.params)) a.conds) (list_all (is_effect counts (length a.params)) a.effs) c.1 in
      none_of_both (list_any (changes_pred f) a.effs) (is_changing_pred actions f) (effects-apart (length a.params) a.effs d.1) (actions-apart actions b.1)

pub past_pred : (task : TaskParts) → IsNumbered task → (p n : ℕ) → n ≡ length task.preds → n ≤ p → false ≡ is_changing_pred task.actions p
past_pred task numbered p n is past = let l : length task.preds ≤ p = omega arith in sym (actions-apart (counts_of task) p l task.actions numbered.actions)

not_below : (m n : ℕ) → n ≤ m → false ≡ nat_lt m n
not_below m n h = grind (arith, nat_tests)

pub past_func : (task : TaskParts) → IsNumbered task → (f n : ℕ) → n ≡ length task.funcs → n ≤ f → false ≡ is_changing_func task.actions f
past_func task numbered f n is past = not_below f n past ∙ past-call task numbered f n is past
