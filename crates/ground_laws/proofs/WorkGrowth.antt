-- When tables grow at the end, what is made of an instance whose names stand in them stays the same.
use Rattle.std.proofs.Common.{◌≡◌, ℕ, Bool, true, false, cond, ◌&&◌, List, [], ◌∷◌, ◌++◌, map, refl, sym, ap, ap₂, subst, ◌∙◌}
use Rattle.std.specs.Prelude.{pos}
use Rattle.std.specs.List.{list_all, flat_map}
use Rattle.std.proofs.lemmas.Bool.{and_parts}
use Rattle.std.proofs.lemmas.List.Folds.{list_all-append}
use Rattle.rational.specs.Fraction.{whole}
use Rattle.lin.specs.Linear.{var}
use Rattle.pddl_task.specs.declared.condition.Cond.{Cond}
use Rattle.pddl_task.specs.declared.condition.Cond.TheVariants as cond_
use Rattle.pddl_task.specs.declared.effect.Effect.{Effect}
use Rattle.pddl_task.specs.declared.effect.Effect.TheVariants as effect
use Rattle.pddl_task.specs.declared.expression.Expr.{Expr}
use Rattle.pddl_task.specs.declared.expression.Expr.TheOpen.{Expr-F}
use Rattle.pddl_task.specs.declared.expression.Expr.TheFolds.{fold-Expr, fold-roll-Expr, ind-Expr, map-Expr}
use Rattle.pddl_task.specs.declared.expression.Expr.TheViews.{roll-Expr}
use Rattle.pddl_task.specs.declared.parts.TaskParts.{TaskParts}
use Rattle.plan_step.specs.State.{PlanState}
use Rattle.plan_step.specs.Meaning.{objects_of}
use Rattle.ground_numbers.specs.declared.named.Named.{Named}
use Rattle.ground_numbers.specs.Numbers.{named, same, is_listed}
use Rattle.ground_action.specs.Setting.{Setting, setting_from, func_number, value_in}
use Rattle.ground_action.specs.Parts.{part, linear, given_part, multiplied, divided, plus_part, minus_part, part_of}
use Rattle.ground_action.specs.Leaves.{compared_outcomes, leaf_of, moved_by, move_of}
use Rattle.ground_action.specs.GroundAction.{may_move}
use Rattle.ground_action.specs.Work.{Work, work, with_made, made_folded, negative_made, work_step, work_of, plus_ops, minus_ops, times_ops, over_ops, is_part, condition_ops, condition_made, effect_ops, until_end, outcomes_ops, comparison_ops}
use Rattle.ground_action.proofs.WorkLaws.{work_is, same_number}
use Rattle.ground_walk.specs.Sightings.{joined, if_changing, names_step, names_of, cond_funcs, effect_funcs}

-- ---- three folds of an expression are related where their steps are
module _ {A B C : Type 0} (f : Expr-F A → A) (g : Expr-F B → B) (h : Expr-F C → C) (R : A → B → C → Type 0) where
  abbrev Three : Expr → Type 0
  Three e = R (fold-Expr A f e) (fold-Expr B g e) (fold-Expr C h e)

  abbrev three_parts : Expr-F ((e : Expr) × Three e) → Expr-F Expr
  three_parts y = map-Expr ((e : Expr) × Three e) Expr (λ p. p.0) y

  abbrev ThreeSteps : Type 0
  ThreeSteps = (y : Expr-F ((e : Expr) × Three e)) → R (f (map-Expr Expr A (fold-Expr A f) (three_parts y))) (g (map-Expr Expr B (fold-Expr B g) (three_parts y))) (h (map-Expr Expr C (fold-Expr C h) (three_parts y)))

  three_related : ThreeSteps → (e : Expr) → R (fold-Expr A f e) (fold-Expr B g e) (fold-Expr C h e)
  three_related steps = ind-Expr Three (λ x y is. let P : Expr-F Expr → Type 0 = λ d. Three (roll-Expr d) in subst P is (rolled y))
    where
      rolled : (y : Expr-F ((e : Expr) × Three e)) → Three (roll-Expr (three_parts y))
      rolled y =
          let b = g (map-Expr Expr B (fold-Expr B g) (three_parts y)) in
          let c = h (map-Expr Expr C (fold-Expr C h) (three_parts y)) in
          let P : A → Type 0 = λ a. R a b c in
          let Q : B → Type 0 = λ d. R (fold-Expr A f (roll-Expr (three_parts y))) d c in
          let S : C → Type 0 = λ d. R (fold-Expr A f (roll-Expr (three_parts y))) (fold-Expr B g (roll-Expr (three_parts y))) d in
          subst S (sym (fold-roll-Expr C h (three_parts y))) (subst Q (sym (fold-roll-Expr B g (three_parts y))) (subst P (sym (fold-roll-Expr A f (three_parts y))) (steps y)))

module _ (task : TaskParts) (begin : PlanState) (atoms more funcs later : List Named) where
  abbrev small : Setting
  small = setting_from task begin atoms funcs

  abbrev big : Setting
  big = setting_from task begin (atoms ++ more) (funcs ++ later)

  abbrev pub are_listed : List Named → Bool
  are_listed ks = list_all (is_listed same funcs) ks

  both_listed : (a b : List Named) → are_listed (a ++ b) ≡ true → (are_listed a ≡ true) × (are_listed b ≡ true)
  both_listed a b h = and_parts (are_listed a) (are_listed b) (sym (list_all-append (is_listed same funcs) a b) ∙ h)

  pub same_func : (k : Named) → is_listed same funcs k ≡ true → func_number big k ≡ func_number small k
  same_func k h = same_number same funcs later k h

  module _ (args : List ℕ) where
    -- ---- expressions
    abbrev Stays : Work → Work → List Named → Type 0
    Stays w v names = are_listed names ≡ true → w ≡ v

    call_stays : (k : Named) (b : Bool) → are_listed (if_changing b k) ≡ true
        → work (cond b (part (linear (k ∷ []) (var (func_number big k)))) (given_part (value_in begin k))) [] ≡ work (cond b (part (linear (k ∷ []) (var (func_number small k)))) (given_part (value_in begin k))) []
    call_stays k true h = ap (λ n. work (part (linear (k ∷ []) (var n))) []) (same_func k (and_parts (is_listed same funcs k) true h).0)
    call_stays k false h = refl

    module _ {E : Type 0} (w v : E → Work) (names : E → List Named) where
      list_stays : (parts : List ((e : E) × Stays (w e) (v e) (names e))) → are_listed (joined (map names (map (λ p. p.0) parts))) ≡ true → map w (map (λ p. p.0) parts) ≡ map v (map (λ p. p.0) parts)
      list_stays [] h = refl
      list_stays (p ∷ parts) h = let hs = both_listed (names p.0) (joined (map names (map (λ p. p.0) parts))) h in ap₂ ◌∷◌ (p.1 hs.0) (list_stays parts hs.1)

    abbrev big_work : Expr → Work
    big_work = fold-Expr Work (work_step big args)

    abbrev small_work : Expr → Work
    small_work = fold-Expr Work (work_step small args)

    abbrev names_at : Expr → List Named
    names_at = fold-Expr (List Named) (names_step task args)

    steps : ThreeSteps (work_step big args) (work_step small args) (names_step task args) Stays
    steps (Expr-F.Num n) = λ h. refl
    steps (Expr-F.Call func terms) = let k = named func (objects_of args terms) in call_stays k (small.changing_func func)
    steps (Expr-F.Add parts) = λ h. ap (made_folded plus_part plus_ops (whole (pos 0))) (list_stays big_work small_work names_at parts h)
    steps (Expr-F.Mul parts) = λ h. ap (made_folded multiplied times_ops (whole (pos 1))) (list_stays big_work small_work names_at parts h)
    steps (Expr-F.Neg a) = λ h. ap (λ (w : Work). negative_made w.outcome w.ops) (a.1 h)
    steps (Expr-F.Sub a b) = λ h. let hs = both_listed (names_at a.0) (names_at b.0) h in ap₂ (with_made minus_part minus_ops) (a.1 hs.0) (b.1 hs.1)
    steps (Expr-F.Div a b) = λ h. let hs = both_listed (names_at a.0) (names_at b.0) h in ap₂ (with_made divided over_ops) (a.1 hs.0) (b.1 hs.1)

    same_work : (e : Expr) → are_listed (names_of task args e) ≡ true → work_of big args e ≡ work_of small args e
    unfolding work_of names_of
    same_work = three_related (work_step big args) (work_step small args) (names_step task args) Stays steps

    same_part : (e : Expr) → are_listed (names_of task args e) ≡ true → part_of big args e ≡ part_of small args e
    same_part e h = sym (work_is big args e) ∙ ap (λ (w : Work). w.outcome) (same_work e h) ∙ work_is small args e

    -- ---- conditions
    pub same_leaf : (c : Cond) → are_listed (cond_funcs task args c) ≡ true → leaf_of big args c ≡ leaf_of small args c
    same_leaf (cond_.Lit sign pred terms) h = refl
    same_leaf (cond_.Same sign left right) h = refl
    same_leaf (cond_.Compare r left right) h = let hs = both_listed (names_of task args left) (names_of task args right) h in ap₂ (compared_outcomes r) (same_part left hs.0) (same_part right hs.1)

    same_condition_ops : (c : Cond) → are_listed (cond_funcs task args c) ≡ true → condition_ops big args c ≡ condition_ops small args c
    same_condition_ops (cond_.Lit sign pred terms) h = refl
    same_condition_ops (cond_.Same sign left right) h = refl
    same_condition_ops (cond_.Compare r left right) h =
        let hs = both_listed (names_of task args left) (names_of task args right) h in
        ap₂ (λ (w v : Work). w.ops ++ (cond (is_part (part_of big args left)) v.ops [])) (same_work left hs.0) (same_work right hs.1)
        ∙ ap (λ o. (work_of small args left).ops ++ (cond (is_part o) (work_of small args right).ops [])) (same_part left hs.0)

    same_condition_made : (c : Cond) → are_listed (cond_funcs task args c) ≡ true → condition_made big args c ≡ condition_made small args c
    same_condition_made (cond_.Lit sign pred terms) h = refl
    same_condition_made (cond_.Same sign left right) h = refl
    same_condition_made (cond_.Compare r left right) h =
        let hs = both_listed (names_of task args left) (names_of task args right) h in ap₂ (λ o p. is_part o && is_part p) (same_part left hs.0) (same_part right hs.1)

    same_comparison_ops : (c : Cond) → are_listed (cond_funcs task args c) ≡ true → comparison_ops big args c ≡ comparison_ops small args c
    same_comparison_ops (cond_.Lit sign pred terms) h = refl
    same_comparison_ops (cond_.Same sign left right) h = refl
    same_comparison_ops (cond_.Compare r left right) h = let hs = both_listed (names_of task args left) (names_of task args right) h in ap₂ (outcomes_ops r) (same_part left hs.0) (same_part right hs.1)

    module _ {X : Type 0} (f g : Cond → X) (each : (c : Cond) → are_listed (cond_funcs task args c) ≡ true → f c ≡ g c) where
      pub conditions_same : (cs : List Cond) → are_listed (flat_map (cond_funcs task args) cs) ≡ true → map f cs ≡ map g cs
      conditions_same [] h = refl
      conditions_same (c ∷ cs) h = let hs = both_listed (cond_funcs task args c) (flat_map (cond_funcs task args) cs) h in ap₂ ◌∷◌ (each c hs.0) (conditions_same cs hs.1)

    pub same_leaves : (cs : List Cond) → are_listed (flat_map (cond_funcs task args) cs) ≡ true → map (leaf_of big args) cs ≡ map (leaf_of small args) cs
    same_leaves = conditions_same (leaf_of big args) (leaf_of small args) same_leaf

    pub comparisons_same : (cs : List Cond) → are_listed (flat_map (cond_funcs task args) cs) ≡ true → flat_map (comparison_ops big args) cs ≡ flat_map (comparison_ops small args) cs
    comparisons_same [] h = refl
    comparisons_same (c ∷ cs) h = let hs = both_listed (cond_funcs task args c) (flat_map (cond_funcs task args) cs) h in ap₂ ◌++◌ (same_comparison_ops c hs.0) (comparisons_same cs hs.1)

    pub all_made_same : (cs : List Cond) → are_listed (flat_map (cond_funcs task args) cs) ≡ true → list_all (condition_made big args) cs ≡ list_all (condition_made small args) cs
    all_made_same [] h = refl
    all_made_same (c ∷ cs) h = let hs = both_listed (cond_funcs task args c) (flat_map (cond_funcs task args) cs) h in ap₂ ◌&&◌ (same_condition_made c hs.0) (all_made_same cs hs.1)

    pub until_conditions_same : (cs : List Cond) → are_listed (flat_map (cond_funcs task args) cs) ≡ true
        → until_end (condition_made big args) (condition_ops big args) cs ≡ until_end (condition_made small args) (condition_ops small args) cs
    until_conditions_same [] h = refl
    until_conditions_same (c ∷ cs) h =
        let hs = both_listed (cond_funcs task args c) (flat_map (cond_funcs task args) cs) h in
        ap₂ (λ xs b. xs ++ cond b (until_end (condition_made big args) (condition_ops big args) cs) []) (same_condition_ops c hs.0) (same_condition_made c hs.0)
        ∙ ap (λ ys. condition_ops small args c ++ cond (condition_made small args c) ys []) (until_conditions_same cs hs.1)

    -- ---- effects
    pub same_move : (e : Effect) → are_listed (effect_funcs task args e) ≡ true → move_of big args e ≡ move_of small args e
    same_move (effect.Put sign pred terms) h = refl
    same_move (effect.Change op func terms by) h =
        let k = named func (objects_of args terms) in
        ap (moved_by op k) (same_part by (and_parts (is_listed same funcs k) (are_listed (names_of task args by)) h).1)

    same_effect_ops : (e : Effect) → are_listed (effect_funcs task args e) ≡ true → effect_ops big args e ≡ effect_ops small args e
    same_effect_ops (effect.Put sign pred terms) h = refl
    same_effect_ops (effect.Change op func terms by) h =
        let k = named func (objects_of args terms) in
        ap (λ (w : Work). w.ops) (same_work by (and_parts (is_listed same funcs k) (are_listed (names_of task args by)) h).1)

    pub same_moves : (es : List Effect) → are_listed (flat_map (effect_funcs task args) es) ≡ true → map (move_of big args) es ≡ map (move_of small args) es
    same_moves [] h = refl
    same_moves (e ∷ es) h = let hs = both_listed (effect_funcs task args e) (flat_map (effect_funcs task args) es) h in ap₂ ◌∷◌ (same_move e hs.0) (same_moves es hs.1)

    pub until_effects_same : (es : List Effect) → are_listed (flat_map (effect_funcs task args) es) ≡ true
        → until_end (λ e. may_move (move_of big args e)) (effect_ops big args) es ≡ until_end (λ e. may_move (move_of small args e)) (effect_ops small args) es
    until_effects_same [] h = refl
    until_effects_same (e ∷ es) h =
        let hs = both_listed (effect_funcs task args e) (flat_map (effect_funcs task args) es) h in
        ap₂ (λ xs b. xs ++ cond b (until_end (λ e. may_move (move_of big args e)) (effect_ops big args) es) []) (same_effect_ops e hs.0) (ap may_move (same_move e hs.0))
        ∙ ap (λ ys. effect_ops small args e ++ cond (may_move (move_of small args e)) ys []) (until_effects_same es hs.1)
