-- Leaves of conditions and of effects, without a bound.
use Rattle.std.proofs.Common.{◌≡◌, ℕ, ◌+◌, Bool, true, false, ◌&&◌, cond, List, [], ◌∷◌, map, Option, Some, None, Result, Ok, Err, refl, sym, ap, ap₂, subst, ◌∙◌}
use Rattle.std.specs.Option.{option_map, option_and_then}
use Rattle.rational.specs.Fraction.{Fraction}
use Rattle.frac128.specs.declared.operations.Op.TheVariants as op
use Rattle.frac128.specs.declared.operations.Wide.{Wide}
use Rattle.pddl_task.specs.declared.condition.Cond.{Cond}
use Rattle.pddl_task.specs.declared.condition.Cond.TheVariants as cond_of
use Rattle.pddl_task.specs.declared.effect.Effect.{Effect}
use Rattle.pddl_task.specs.declared.effect.Effect.TheVariants as effect
use Rattle.pddl_task.specs.declared.effect.NumOp.{NumOp}
use Rattle.pddl_task.specs.declared.effect.NumOp.TheVariants.{Assign, Increase, Decrease, ScaleUp, ScaleDown}
use Rattle.plan_step.specs.declared.failure.StepFail.{StepFail}
use Rattle.plan_step.specs.declared.failure.StepFail.TheVariants as fail
use Rattle.plan_step.specs.State.{PlanState}
use Rattle.plan_step.specs.Met.{Met, found, lacks, passes, and_then}
use Rattle.plan_step.specs.Evaluation.{evaluated}
use Rattle.plan_step.specs.Order.{related}
use Rattle.plan_step.specs.Conditions.{leaf_met, leaves_met, first_unmet, all_met, goal_met}
use Rattle.plan_step.specs.Effects.{target_met, amount_met, change_met, more_changes, all_changes, changed}
use Rattle.plan_step.specs.Meaning.{objects_of, is_zero_ℤ, Change, put, change, compares, holds, all_hold, has_target, amount, change_of, changed_by, value_of}
use Rattle.plan_step.specs.Laws.{IsWide}
use Rattle.plan_step.proofs.Meanings.{IsPast, Agrees, agrees_then, agrees_as, agrees_operated, value_agrees}

-- ---- conditions

-- what is met at a leaf, and whether it holds
abbrev pub LeafAgrees : Met Bool → Bool → Type 0
LeafAgrees (found c) b = b ≡ c
LeafAgrees lacks b = b ≡ false
LeafAgrees (passes w) b = IsPast w

right_side : (is : Fraction → Fraction → Bool) (x : Fraction) (n : Met Fraction) (b : Option Fraction) → Agrees n b → LeafAgrees (and_then n (λ y. found (is x y))) (compares is (Some x) b)
right_side is x (found y) b h = ap (compares is (Some x)) h
right_side is x lacks b h = ap (compares is (Some x)) h
right_side is x (passes w) b h = h

sides : (is : Fraction → Fraction → Bool) (m n : Met Fraction) (a b : Option Fraction) → Agrees m a → Agrees n b → LeafAgrees (and_then m (λ x. and_then n (λ y. found (is x y)))) (compares is a b)
sides is (found x) n a b h k = let P : Option Fraction → Type 0 = λ o. LeafAgrees (and_then n (λ y. found (is x y))) (compares is o b) in subst P (sym h) (right_side is x n b k)
sides is lacks n a b h k = ap (λ (o : Option Fraction). compares is o b) h
sides is (passes w) n a b h k = h

module _ (state : PlanState) (args : List ℕ) where
  pub leaf_agrees : (c : Cond) → LeafAgrees (leaf_met state args c) (holds state args c)
  leaf_agrees (cond_of.Lit sign pred terms) = refl
  leaf_agrees (cond_of.Same sign left right) = refl
  leaf_agrees (cond_of.Compare rel left right) = sides (related rel) (evaluated state args left) (evaluated state args right) (value_of state args left) (value_of state args right) (value_agrees state args left) (value_agrees state args right)

  first_met : (m : Met Bool) (b rest : Bool) (i : ℕ) (ms : List (Met Bool)) → LeafAgrees m b → (first_unmet (i + 1) ms ≡ Ok tt → rest ≡ true) → first_unmet i (m ∷ ms) ≡ Ok tt → (b && rest) ≡ true
  first_met (found true) b rest i ms h k is = ap₂ ◌&&◌ h (k is)
  first_met (found false) b rest i ms h k is = cc
  first_met lacks b rest i ms h k is = cc
  first_met (passes w) b rest i ms h k is = cc

  pub conditions_hold : (conds : List Cond) (i : ℕ) → first_unmet i (leaves_met state args conds) ≡ Ok tt → all_hold state args conds ≡ true
  conditions_hold [] i is = refl
  conditions_hold (c ∷ conds) i is = first_met (leaf_met state args c) (holds state args c) (all_hold state args conds) i (leaves_met state args conds) (leaf_agrees c) (conditions_hold conds (i + 1)) is

  wide_only : (e : StepFail) (w : Wide) → ◌≡◌ {A = Result (Unit {0}) StepFail} (Err (fail.Wide w)) (Err e) → IsWide e
  wide_only e w is = let same : fail.Wide w ≡ e = cc in subst IsWide same tt

  first_fails : (m : Met Bool) (b rest : Bool) (i : ℕ) (ms : List (Met Bool)) (e : StepFail) → LeafAgrees m b → (rest ≡ true → first_unmet (i + 1) ms ≡ Err e → IsWide e) → (b && rest) ≡ true → first_unmet i (m ∷ ms) ≡ Err e → IsWide e
  first_fails (found true) b rest i ms e h k all is = k (ap (λ c. c && rest) (sym h) ∙ all) is
  first_fails (found false) b rest i ms e h k all is = let never : false ≡ true = ap (λ c. c && rest) (sym h) ∙ all in cc
  first_fails lacks b rest i ms e h k all is = let never : false ≡ true = ap (λ c. c && rest) (sym h) ∙ all in cc
  first_fails (passes w) b rest i ms e h k all is = wide_only e w is

  pub conditions_fail : (conds : List Cond) (i : ℕ) (e : StepFail) → all_hold state args conds ≡ true → first_unmet i (leaves_met state args conds) ≡ Err e → IsWide e
  conditions_fail [] i e all is = cc
  conditions_fail (c ∷ conds) i e all is =
      first_fails (leaf_met state args c) (holds state args c) (all_hold state args conds) i (leaves_met state args conds) e (leaf_agrees c) (conditions_fail conds (i + 1) e) all is

  all_then : (m : Met Bool) (b rest answer : Bool) (ms : List (Met Bool)) → LeafAgrees m b → (all_met ms ≡ Ok answer → rest ≡ answer) → all_met (m ∷ ms) ≡ Ok answer → (b && rest) ≡ answer
  all_then (found true) b rest answer ms h k is = ap (λ c. c && rest) h ∙ k is
  all_then (found false) b rest answer ms h k is = let same : false ≡ answer = cc in ap (λ c. c && rest) h ∙ same
  all_then lacks b rest answer ms h k is = let same : false ≡ answer = cc in ap (λ c. c && rest) h ∙ same
  all_then (passes w) b rest answer ms h k is = cc

  answer_is : (conds : List Cond) (answer : Bool) → all_met (leaves_met state args conds) ≡ Ok answer → all_hold state args conds ≡ answer
  answer_is [] answer is = cc
  answer_is (c ∷ conds) answer is = all_then (leaf_met state args c) (holds state args c) (all_hold state args conds) answer (leaves_met state args conds) (leaf_agrees c) (answer_is conds answer) is

-- what the test of a goal says of it
pub tested_goal : (state : PlanState) (goal : List Cond) (answer : Bool) → goal_met state goal ≡ Ok answer → all_hold state [] goal ≡ answer
unfolding goal_met
tested_goal state goal answer is = answer_is state [] goal answer is

-- ---- effects
targeted : (op : NumOp) (v : Option Fraction) (m : Met Change) (o : Option Change) → Agrees m o → Agrees (and_then (target_met op v) (λ _. m)) (cond (has_target op v) o None)
targeted Assign v m o h = h
targeted Increase None m o h = refl
targeted Increase (Some x) m o h = h
targeted Decrease None m o h = refl
targeted Decrease (Some x) m o h = h
targeted ScaleUp None m o h = refl
targeted ScaleUp (Some x) m o h = h
targeted ScaleDown None m o h = refl
targeted ScaleDown (Some x) m o h = h

by_zero : (b : Bool) (x : Fraction) → Agrees (cond b lacks (found x)) (cond b None (Some x))
by_zero true x = refl
by_zero false x = refl

amount_agrees : (op : NumOp) (x : Fraction) → Agrees (amount_met op x) (amount op x)
amount_agrees Assign x = refl
amount_agrees Increase x = refl
amount_agrees Decrease x = refl
amount_agrees ScaleUp x = refl
amount_agrees ScaleDown x = by_zero (is_zero_ℤ x.num) x

mapped : {A B : Type 0} (k : A → B) (m : Met A) (o : Option A) → Agrees m o → Agrees (and_then m (λ y. found (k y))) (option_map k o)
mapped k (found x) o h = ap (option_map k) h
mapped k lacks o h = ap (option_map k) h
mapped k (passes w) o h = h

map_then : {A B C : Type 0} (k : B → C) (g : A → Option B) (o : Option A) → option_and_then (λ x. option_map k (g x)) o ≡ option_map k (option_and_then g o)
map_then k g None = refl
map_then k g (Some x) = refl

pub changed_agrees : (op : NumOp) (v : Option Fraction) (by : Fraction) → Agrees (changed op v by) (changed_by op by v)
changed_agrees Assign v by = refl
changed_agrees Increase None by = refl
changed_agrees Increase (Some x) by = agrees_operated op.Add x by
changed_agrees Decrease None by = refl
changed_agrees Decrease (Some x) by = agrees_operated op.Sub x by
changed_agrees ScaleUp None by = refl
changed_agrees ScaleUp (Some x) by = agrees_operated op.Mul x by
changed_agrees ScaleDown None by = refl
changed_agrees ScaleDown (Some x) by = agrees_operated op.Div x by

-- what comes of a leaf's change and of the rest
abbrev pub gathered : ℕ → Met Change → Result (List Change) StepFail → Result (List Change) StepFail
gathered i (found c) rest = more_changes c rest
gathered i lacks rest = Err (fail.NoValue i)
gathered i (passes w) rest = Err (fail.Wide w)

pub gathered_is : (i : ℕ) (m : Met Change) (ms : List (Met Change)) → all_changes i (m ∷ ms) ≡ gathered i m (all_changes (i + 1) ms)
gathered_is i (found c) ms = refl
gathered_is i lacks ms = refl
gathered_is i (passes w) ms = refl

-- a change's target has a value where it needs one
abbrev pub HasValue : (ℕ → List ℕ → Option Fraction) → Change → Type 0
HasValue values (put sign p args) = Unit {0}
HasValue values (change op f args by) = target_met op (values f args) ≡ found tt

abbrev pub HaveValues : (ℕ → List ℕ → Option Fraction) → List Change → Type 0
HaveValues values [] = Unit {0}
HaveValues values (c ∷ changes) = HasValue values c × HaveValues values changes

module _ (state : PlanState) (args : List ℕ) where
  pub change_agrees : (e : Effect) → Agrees (change_met state args e) (change_of state args e)
  change_agrees (effect.Put sign pred terms) = refl
  change_agrees (effect.Change op func terms by) =
      let k : Fraction → Change = change op func (objects_of args terms) in
      targeted op (state.value func (objects_of args terms)) (and_then (evaluated state args by) (λ x. and_then (amount_met op x) (λ y. found (k y)))) (option_map k (option_and_then (amount op) (value_of state args by)))
      (agrees_as (and_then (evaluated state args by) (λ x. and_then (amount_met op x) (λ y. found (k y)))) _ _
      (agrees_then (evaluated state args by) (value_of state args by) (λ x. and_then (amount_met op x) (λ y. found (k y))) (λ x. option_map k (amount op x)) (value_agrees state args by) (λ x. mapped k (amount_met op x) (amount op x) (amount_agrees op x)))
      (map_then k (amount op) (value_of state args by)))

  on_ok : (c : Change) (rest : Result (List Change) StepFail) (cs : List Change) → more_changes c rest ≡ Ok cs → (more : List Change) × (rest ≡ Ok more) × (cs ≡ c ∷ more)
  on_ok c (Ok more) cs is = let same : c ∷ more ≡ cs = cc in (more, refl, sym same)
  on_ok c (Err e) cs is = cc

  all_there : (i : ℕ) (m : Met Change) (o : Option Change) (rest : Result (List Change) StepFail) (os : List (Option Change)) (cs : List Change)
      → Agrees m o → ((more : List Change) → rest ≡ Ok more → os ≡ map Some more) → gathered i m rest ≡ Ok cs → o ∷ os ≡ map Some cs
  all_there i (found c) o rest os cs h k is =
      let s = on_ok c rest cs is in ap₂ (λ (p : Option Change) (ps : List (Option Change)). p ∷ ps) h (k s.0 s.1) ∙ sym (ap (map Some) s.2)
  all_there i lacks o rest os cs h k is = cc
  all_there i (passes w) o rest os cs h k is = cc

  pub changes_are : (effs : List Effect) (i : ℕ) (cs : List Change) → all_changes i (map (change_met state args) effs) ≡ Ok cs → map (change_of state args) effs ≡ map Some cs
  changes_are [] i cs is = let same : [] ≡ cs = cc in ap (map Some) same
  changes_are (e ∷ effs) i cs is =
      let ms = map (change_met state args) effs in
      all_there i (change_met state args e) (change_of state args e) (all_changes (i + 1) ms) (map (change_of state args) effs) cs (change_agrees e) (changes_are effs (i + 1)) (sym (gathered_is i (change_met state args e) ms) ∙ is)

  wide_change : (e : StepFail) (w : Wide) → ◌≡◌ {A = Result (List Change) StepFail} (Err (fail.Wide w)) (Err e) → IsWide e
  wide_change e w is = let same : fail.Wide w ≡ e = cc in subst IsWide same tt

  pub on_err : (c : Change) (rest : Result (List Change) StepFail) (e : StepFail) → more_changes c rest ≡ Err e → rest ≡ Err e
  on_err c (Ok more) e is = cc
  on_err c (Err f) e is = is

  one_fails : (i : ℕ) (m : Met Change) (o : Option Change) (rest : Result (List Change) StepFail) (os : List (Option Change)) (cs : List Change) (e : StepFail)
      → Agrees m o → ((more : List Change) → os ≡ map Some more → rest ≡ Err e → IsWide e) → o ∷ os ≡ map Some cs → gathered i m rest ≡ Err e → IsWide e
  one_fails i m o rest os [] e h k all is = cc
  one_fails i (found c) o rest os (d ∷ cs) e h k all is = let tail : os ≡ map Some cs = cc in k cs tail (on_err c rest e is)
  one_fails i lacks o rest os (d ∷ cs) e h k all is = let never : o ≡ Some d = cc in cc
  one_fails i (passes w) o rest os (d ∷ cs) e h k all is = wide_change e w is

  pub changes_fail : (effs : List Effect) (i : ℕ) (cs : List Change) (e : StepFail) → map (change_of state args) effs ≡ map Some cs → all_changes i (map (change_met state args) effs) ≡ Err e → IsWide e
  changes_fail [] i cs e all is = cc
  changes_fail (f ∷ effs) i cs e all is =
      let ms = map (change_met state args) effs in
      one_fails i (change_met state args f) (change_of state args f) (all_changes (i + 1) ms) (map (change_of state args) effs) cs e (change_agrees f) (λ more tail. changes_fail effs (i + 1) more e tail) all
      (sym (gathered_is i (change_met state args f) ms) ∙ is)

  -- ---- targets
  after_target : (t : Met (Unit {0})) (m : Met Change) (c : Change) → and_then t (λ _. m) ≡ found c → (t ≡ found tt) × (m ≡ found c)
  after_target (found u) m c is = (refl, is)
  after_target lacks m c is = cc
  after_target (passes w) m c is = cc

  shape : (k : Fraction → Change) (m : Met Fraction) (c : Change) → and_then m (λ y. found (k y)) ≡ found c → (y : Fraction) × (c ≡ k y)
  shape k (found y) c is = let same : k y ≡ c = cc in (y, sym same)
  shape k lacks c is = cc
  shape k (passes w) c is = cc

  shape_then : (k : Fraction → Change) (m : Met Fraction) (f : Fraction → Met Fraction) (c : Change) → and_then m (λ x. and_then (f x) (λ y. found (k y))) ≡ found c → (y : Fraction) × (c ≡ k y)
  shape_then k (found x) f c is = shape k (f x) c is
  shape_then k lacks f c is = cc
  shape_then k (passes w) f c is = cc

  has_value : (e : Effect) (c : Change) → change_met state args e ≡ found c → HasValue state.value c
  has_value (effect.Put sign pred terms) c is = let same : put sign pred (objects_of args terms) ≡ c = cc in subst (HasValue state.value) same tt
  has_value (effect.Change op func terms by) c is =
      let k : Fraction → Change = change op func (objects_of args terms) in
      let t = after_target (target_met op (state.value func (objects_of args terms))) (and_then (evaluated state args by) (λ x. and_then (amount_met op x) (λ y. found (k y)))) c is in
      let s = shape_then k (evaluated state args by) (amount_met op) c t.1 in
      subst (HasValue state.value) (sym s.1) t.0

  values_there : (i : ℕ) (m : Met Change) (rest : Result (List Change) StepFail) (cs : List Change) → ((c : Change) → m ≡ found c → HasValue state.value c)
      → ((more : List Change) → rest ≡ Ok more → HaveValues state.value more) → gathered i m rest ≡ Ok cs → HaveValues state.value cs
  values_there i (found c) rest cs h k is = let s = on_ok c rest cs is in subst (HaveValues state.value) (sym s.2) (h c refl, k s.0 s.1)
  values_there i lacks rest cs h k is = cc
  values_there i (passes w) rest cs h k is = cc

  pub have_values : (effs : List Effect) (i : ℕ) (cs : List Change) → all_changes i (map (change_met state args) effs) ≡ Ok cs → HaveValues state.value cs
  have_values [] i cs is = let same : [] ≡ cs = cc in subst (HaveValues state.value) same tt
  have_values (e ∷ effs) i cs is =
      let ms = map (change_met state args) effs in
      values_there i (change_met state args e) (all_changes (i + 1) ms) cs (has_value e) (have_values effs (i + 1)) (sym (gathered_is i (change_met state args e) ms) ∙ is)
