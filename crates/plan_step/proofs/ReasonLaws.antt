-- Where there is a reason, a step fails by it, operations that pass 128 bits aside; and there is no step.
use Rattle.std.proofs.Common.{◌≡◌, ℕ, zero, suc, ◌+◌, ◌<◌, ◌==◌, Bool, true, false, ◌&&◌, ◌||◌, cond, List, [], ◌∷◌, ◌++◌, map, length, take, inl, inr, Option, Some, None, Result, Ok, Err, refl, sym, ap, ap₂, subst, ◌∙◌, arith}
use Rattle.std.proofs.lemmas.Bool.{eqb-true}
use Rattle.std.proofs.lemmas.List.{append_assoc, append-nil}
use Rattle.std.specs.Prelude.{slice_get}
use Rattle.std.specs.List.{list_any, list_all}
use Rattle.pddl_task.specs.declared.action.Action.{Action}
use Rattle.pddl_task.specs.declared.condition.Cond.{Cond}
use Rattle.pddl_task.specs.declared.effect.Effect.{Effect}
use Rattle.pddl_task.specs.declared.instance.Instance.{Instance}
use Rattle.pddl_task.specs.declared.parts.TaskParts.{TaskParts}
use Rattle.plan_step.specs.declared.failure.StepFail.{StepFail}
use Rattle.plan_step.specs.declared.failure.StepFail.TheVariants as fail
use Rattle.plan_step.specs.State.{PlanState}
use Rattle.plan_step.specs.Met.{Met, found, lacks, passes}
use Rattle.plan_step.specs.Effects.{change_met, more_changes, all_changes, first_clash}
use Rattle.plan_step.specs.Conditions.{leaf_met, leaves_met, first_unmet}
use Rattle.plan_step.specs.Step.{then_next, action_with, action_for, typed_arguments, made_by, step_from}
use Rattle.plan_step.specs.Meaning.{Change, clashes, fits, all_fit, holds, all_hold, change_of, IsClean, IsInstanceOf, HasStep}
use Rattle.plan_step.specs.Laws.{IsWide, IsRefutal, FailsOnly}
use Rattle.plan_step.specs.Reasons.{HasNoAction, HasUnfitArgument, IsFirstUnmet, IsFirstWithoutValue, IsFirstClash, FailsBy}
use Rattle.plan_step.proofs.Meanings.{Agrees}
use Rattle.plan_step.proofs.LeafLaws.{LeafAgrees, leaf_agrees, change_agrees, gathered, gathered_is, conditions_fail, changes_fail, changes_are}
use Rattle.plan_step.proofs.StepLaws.{same_some, none_any, took, take_get, action_found, one_list}

as_same : {A : Type 0} (e f : StepFail) (r : Result A StepFail) → e ≡ f → FailsOnly e r → FailsOnly f r
as_same e f r is h = let P : StepFail → Type 0 = λ g. FailsOnly g r in subst P is h

only_of : {A : Type 0} (e : StepFail) (r q : Result A StepFail) → r ≡ q → FailsOnly e q → FailsOnly e r
only_of {A} e r q is h = let P : Result A StepFail → Type 0 = λ p. FailsOnly e p in subst P (sym is) h

-- a row of tests fails at the first
next_only : {A B : Type 0} (e : StepFail) (r : Result A StepFail) (next : A → Result B StepFail) → FailsOnly e r → FailsOnly e (then_next r next)
next_only e (Ok a) next h = absurd h
next_only e (Err f) next h = h

-- or after it
next_wide : {A B : Type 0} (e : StepFail) (r : Result A StepFail) (next : A → Result B StepFail) → ((f : StepFail) → r ≡ Err f → IsWide f) → ((a : A) → r ≡ Ok a → FailsOnly e (next a)) → FailsOnly e (then_next r next)
next_wide e (Ok a) next h k = k a refl
next_wide e (Err f) next h k = inr (h f refl)

both_true : (x y : Bool) → (x && y) ≡ true → (x ≡ true) × (y ≡ true)
both_true true y h = (refl, h)
both_true false y h = cc

second_false : (x y : Bool) → y ≡ false → (x && y) ≡ false
second_false true y h = h
second_false false y h = refl

some_ℕ : (a b : ℕ) → Some a ≡ Some b → a ≡ b
some_ℕ a b is = cc

some_types : (a b : List ℕ) → Some a ≡ Some b → a ≡ b
some_types a b is = cc

some_cond : (a b : Cond) → Some a ≡ Some b → a ≡ b
some_cond a b is = cc

some_effect : (a b : Effect) → Some a ≡ Some b → a ≡ b
some_effect a b is = cc

some_action : (a b : Action) → Some a ≡ Some b → a ≡ b
some_action a b is = cc

-- ---- the action and its arguments

counted_only : (b : Bool) (a : Action) → (b ≡ true → ⊥) → FailsOnly fail.Arity (cond b (Ok a) (Err fail.Arity))
counted_only true a h = absurd (h refl)
counted_only false a h = inl refl

no_action : (n : ℕ) (o : Option Action) → ((a : Action) → o ≡ Some a → length a.params ≡ n → ⊥) → FailsOnly fail.Arity (action_with n o)
no_action n None h = inl refl
no_action n (Some b) h = counted_only (length b.params == n) b (λ is. h b refl (eqb-true (length b.params) n is))

not_fit : (task : TaskParts) (params : List (List ℕ)) (args : List ℕ) (i : ℕ) (types : List ℕ) (o : ℕ) → slice_get params i ≡ Some types → slice_get args i ≡ Some o → fits task types o ≡ false → all_fit task params args ≡ false
not_fit task [] args i types o param arg unfit = cc
not_fit task (ts ∷ more) [] i types o param arg unfit = cc
not_fit task (ts ∷ more) (a ∷ args) zero types o param arg unfit =
    ap (λ b. b && all_fit task more args) (ap₂ (λ (us : List ℕ) (x : ℕ). fits task us x) (some_types ts types param) (some_ℕ a o arg) ∙ unfit)
not_fit task (ts ∷ more) (a ∷ args) (suc i) types o param arg unfit = second_false (fits task ts a) (all_fit task more args) (not_fit task more args i types o param arg unfit)

-- ---- the leaves

here : (n : ℕ) → n ≡ n + 0
here n = omega arith

next_at : (n i : ℕ) → n + 1 + i ≡ n + suc i
next_at n i = omega arith

unmet_here : (m : Met Bool) (b : Bool) (n : ℕ) (ms : List (Met Bool)) → LeafAgrees m b → b ≡ false → FailsOnly (fail.Condition (n + 0)) (first_unmet n (m ∷ ms))
unmet_here (found true) b n ms h is = cc
unmet_here (found false) b n ms h is = inl (ap (λ (k : ℕ). fail.Condition k) (here n))
unmet_here lacks b n ms h is = inl (ap (λ (k : ℕ). fail.Condition k) (here n))
unmet_here (passes w) b n ms h is = inr tt

unmet_later : (m : Met Bool) (b : Bool) (n i : ℕ) (ms : List (Met Bool)) → LeafAgrees m b → b ≡ true → FailsOnly (fail.Condition (n + 1 + i)) (first_unmet (n + 1) ms) → FailsOnly (fail.Condition (n + suc i)) (first_unmet n (m ∷ ms))
unmet_later (found true) b n i ms h is more = as_same (fail.Condition (n + 1 + i)) (fail.Condition (n + suc i)) (first_unmet (n + 1) ms) (ap (λ (k : ℕ). fail.Condition k) (next_at n i)) more
unmet_later (found false) b n i ms h is more = cc
unmet_later lacks b n i ms h is more = cc
unmet_later (passes w) b n i ms h is more = inr tt

without_here : (m : Met Change) (o : Option Change) (n : ℕ) (rest : Result (List Change) StepFail) → Agrees m o → o ≡ None → FailsOnly (fail.NoValue (n + 0)) (gathered n m rest)
without_here (found c) o n rest h is = cc
without_here lacks o n rest h is = inl (ap (λ (k : ℕ). fail.NoValue k) (here n))
without_here (passes w) o n rest h is = inr tt

more_only : (e : StepFail) (c : Change) (rest : Result (List Change) StepFail) → FailsOnly e rest → FailsOnly e (more_changes c rest)
more_only e c (Ok cs) h = absurd h
more_only e c (Err f) h = h

without_later : (m : Met Change) (o : Option Change) (d : Change) (n i : ℕ) (rest : Result (List Change) StepFail) → Agrees m o → o ≡ Some d → FailsOnly (fail.NoValue (n + 1 + i)) rest → FailsOnly (fail.NoValue (n + suc i)) (gathered n m rest)
without_later (found c) o d n i rest h is more =
    more_only (fail.NoValue (n + suc i)) c rest (as_same (fail.NoValue (n + 1 + i)) (fail.NoValue (n + suc i)) rest (ap (λ (k : ℕ). fail.NoValue k) (next_at n i)) more)
without_later lacks o d n i rest h is more = cc
without_later (passes w) o d n i rest h is more = inr tt

all_at : (test : Cond → Bool) (conds : List Cond) (i : ℕ) (c : Cond) → slice_get conds i ≡ Some c → list_all test conds ≡ true → test c ≡ true
all_at test [] i c at all = cc
all_at test (d ∷ conds) zero c at all = ap test (sym (some_cond d c at)) ∙ (both_true (test d) (list_all test conds) all).0
all_at test (d ∷ conds) (suc i) c at all = all_at test conds i c at (both_true (test d) (list_all test conds) all).1

module _ (s : PlanState) (args : List ℕ) where
  unmet_only : (conds : List Cond) (n i : ℕ) (c : Cond) → slice_get conds i ≡ Some c → all_hold s args (take i conds) ≡ true → holds s args c ≡ false → FailsOnly (fail.Condition (n + i)) (first_unmet n (leaves_met s args conds))
  unmet_only [] n i c at before unmet = cc
  unmet_only (d ∷ conds) n zero c at before unmet =
      unmet_here (leaf_met s args d) (holds s args d) n (leaves_met s args conds) (leaf_agrees s args d) (ap (holds s args) (some_cond d c at) ∙ unmet)
  unmet_only (d ∷ conds) n (suc i) c at before unmet =
      let t = both_true (holds s args d) (all_hold s args (take i conds)) before in
      unmet_later (leaf_met s args d) (holds s args d) n i (leaves_met s args conds) (leaf_agrees s args d) t.0 (unmet_only conds (n + 1) i c at t.1 unmet)

  some_left : (o : Option Change) (os : List (Option Change)) (cs : List Change) → o ∷ os ≡ map Some cs → (d : Change) × (ds : List Change) × (o ≡ Some d) × (os ≡ map Some ds)
  some_left o os [] is = cc
  some_left o os (d ∷ ds) is = let head : o ≡ Some d = cc in let tail : os ≡ map Some ds = cc in (d, ds, head, tail)

  without_only : (effs : List Effect) (n i : ℕ) (f : Effect) (cs : List Change) → slice_get effs i ≡ Some f → map (change_of s args) (take i effs) ≡ map Some cs → change_of s args f ≡ None
      → FailsOnly (fail.NoValue (n + i)) (all_changes n (map (change_met s args) effs))
  without_only [] n i f cs at before without = cc
  without_only (g ∷ effs) n zero f cs at before without =
      let ms = map (change_met s args) effs in
      only_of (fail.NoValue (n + 0)) (all_changes n (change_met s args g ∷ ms)) (gathered n (change_met s args g) (all_changes (n + 1) ms)) (gathered_is n (change_met s args g) ms)
      (without_here (change_met s args g) (change_of s args g) n (all_changes (n + 1) ms) (change_agrees s args g) (ap (change_of s args) (some_effect g f at) ∙ without))
  without_only (g ∷ effs) n (suc i) f cs at before without =
      let ms = map (change_met s args) effs in
      let t = some_left (change_of s args g) (map (change_of s args) (take i effs)) cs before in
      only_of (fail.NoValue (n + suc i)) (all_changes n (change_met s args g ∷ ms)) (gathered n (change_met s args g) (all_changes (n + 1) ms)) (gathered_is n (change_met s args g) ms)
      (without_later (change_met s args g) (change_of s args g) t.0 n i (all_changes (n + 1) ms) (change_agrees s args g) t.2 (without_only effs (n + 1) i f t.1 at t.3 without))

  no_none : (effs : List Effect) (i : ℕ) (f : Effect) (cs : List Change) → slice_get effs i ≡ Some f → map (change_of s args) effs ≡ map Some cs → change_of s args f ≡ None → ⊥
  no_none [] i f cs at values none = cc
  no_none (g ∷ effs) zero f cs at values none =
      let t = some_left (change_of s args g) (map (change_of s args) effs) cs values in
      let never : None ≡ Some t.0 = sym none ∙ ap (change_of s args) (sym (some_effect g f at)) ∙ t.2 in cc
  no_none (g ∷ effs) (suc i) f cs at values none = let t = some_left (change_of s args g) (map (change_of s args) effs) cs values in no_none effs i f t.1 at t.3 none

-- ---- clashes

clash_from : (front cs : List Change) (n i : ℕ) (c : Change) → slice_get cs i ≡ Some c → list_any (clashes c) (front ++ take i cs) ≡ true
    → ((j : ℕ) (b : Change) → j < i → slice_get cs j ≡ Some b → list_any (clashes b) (front ++ take j cs) ≡ false) → first_clash n front cs ≡ Err (fail.Clash (n + i))
clash_from front [] n i c at clash before = cc
clash_from front (d ∷ cs) n zero c at clash before =
    ap (λ b. cond b (Err (fail.Clash n)) (first_clash (n + 1) (front ++ d ∷ []) cs)) (ap₂ (λ (e : Change) (es : List Change). list_any (clashes e) es) (same_some d c at) (sym (append-nil front)) ∙ clash) ∙ ap (λ (k : ℕ). Err (fail.Clash k)) (here n)
clash_from front (d ∷ cs) n (suc i) c at clash before =
    ap (λ b. cond b (Err (fail.Clash n)) (first_clash (n + 1) (front ++ d ∷ []) cs)) (ap (list_any (clashes d)) (sym (append-nil front)) ∙ before 0 d (omega arith) refl)
    ∙ clash_from (front ++ d ∷ []) cs (n + 1) i c at (ap (list_any (clashes c)) (append_assoc front (d ∷ []) (take i cs)) ∙ clash)
    (λ j b below at_j. ap (list_any (clashes b)) (append_assoc front (d ∷ []) (take j cs)) ∙ before (suc j) b (omega arith) at_j)
    ∙ ap (λ (k : ℕ). Err (fail.Clash k)) (next_at n i)

any_here : (x y : Bool) → x ≡ true → (x || y) ≡ true
any_here true y h = refl
any_here false y h = cc

any_later : (x y : Bool) → y ≡ true → (x || y) ≡ true
any_later true y h = refl
any_later false y h = h

any_with : (test : Change → Bool) (cs : List Change) (j : ℕ) (a : Change) → slice_get cs j ≡ Some a → test a ≡ true → list_any test cs ≡ true
any_with test [] j a at is = cc
any_with test (c ∷ cs) zero a at is = any_here (test c) (list_any test cs) (ap test (same_some c a at) ∙ is)
any_with test (c ∷ cs) (suc j) a at is = any_later (test c) (list_any test cs) (any_with test cs j a at is)

-- a change that clashes with an earlier one, where no two in front of it do
clash_only : (cs : List Change) (i j : ℕ) (c o : Change) → slice_get cs i ≡ Some c → j < i → slice_get cs j ≡ Some o → clashes c o ≡ true → IsClean (take i cs) → first_clash 0 [] cs ≡ Err (fail.Clash i)
clash_only cs i j c o at earlier other clash free =
    let z : 0 + i ≡ i = omega arith in
    clash_from [] cs 0 i c at (any_with (clashes c) (take i cs) j o (take_get cs j i o earlier other) clash)
    (λ k b below at_k. none_any (clashes b) (take k cs) (λ m a at_m. let t = took cs m k a at_m in free m k a b t.0 (take_get cs m i a (omega (arith, t.0)) t.1) (take_get cs k i b below at_k)))
    ∙ ap (λ (k : ℕ). Err (fail.Clash k)) z

-- ---- the step

module _ (task : TaskParts) (s : PlanState) (by : Instance) where
  from_action : (e : StepFail) (a : Action) → slice_get task.actions by.action ≡ Some a → length a.params ≡ length by.args
      → FailsOnly e (then_next (typed_arguments task a by.args) (λ _. made_by s a by.args)) → FailsOnly e (step_from task s by)
  unfolding step_from
  from_action e a is arity h =
      let found_action : action_for task by ≡ Ok a = action_found (length by.args) (slice_get task.actions by.action) a is arity in
      let P : Result Action StepFail → Type 0 = λ r. FailsOnly e (then_next r (λ b. then_next (typed_arguments task b by.args) (λ _. made_by s b by.args))) in subst P (sym found_action) h

  from_instance : (e : StepFail) (a : Action) → IsInstanceOf task by a → FailsOnly e (made_by s a by.args) → FailsOnly e (step_from task s by)
  from_instance e a of_action h =
      let typed : typed_arguments task a by.args ≡ Ok tt = ap (λ b. cond b (Ok tt) (Err fail.ArgType)) of_action.typed in
      from_action e a of_action.is_action of_action.arity
      (let P : Result (Unit {0}) StepFail → Type 0 = λ r. FailsOnly e (then_next r (λ _. made_by s a by.args)) in subst P (sym typed) h)

  arity_only : HasNoAction task by → FailsOnly fail.Arity (step_from task s by)
  unfolding step_from
  arity_only h = next_only fail.Arity (action_for task by) _ (no_action (length by.args) (slice_get task.actions by.action) h)

  type_only : HasUnfitArgument task by → FailsOnly fail.ArgType (step_from task s by)
  type_only h =
      let untyped : typed_arguments task h.action by.args ≡ Err fail.ArgType = ap (λ b. cond b (Ok tt) (Err fail.ArgType)) (not_fit task h.action.params by.args h.place h.types h.object h.parameter h.argument h.unfit) in
      from_action fail.ArgType h.action h.is_action h.arity
      (let P : Result (Unit {0}) StepFail → Type 0 = λ r. FailsOnly fail.ArgType (then_next r (λ _. made_by s h.action by.args)) in subst P (sym untyped) (inl refl))

  condition_only : (i : ℕ) → IsFirstUnmet task s by i → FailsOnly (fail.Condition i) (step_from task s by)
  condition_only i h =
      let z : 0 + i ≡ i = omega arith in
      from_instance (fail.Condition i) h.action h.of_action
      (next_only (fail.Condition i) (first_unmet 0 (leaves_met s by.args h.action.conds)) _
      (as_same (fail.Condition (0 + i)) (fail.Condition i) (first_unmet 0 (leaves_met s by.args h.action.conds)) (ap (λ (k : ℕ). fail.Condition k) z) (unmet_only s by.args h.action.conds 0 i h.leaf h.leaf_is h.before h.unmet)))

  value_only : (i : ℕ) → IsFirstWithoutValue task s by i → FailsOnly (fail.NoValue i) (step_from task s by)
  value_only i h =
      let z : 0 + i ≡ i = omega arith in
      let ms = map (change_met s by.args) h.action.effs in
      from_instance (fail.NoValue i) h.action h.of_action
      (next_wide (fail.NoValue i) (first_unmet 0 (leaves_met s by.args h.action.conds)) _ (λ f. conditions_fail s by.args h.action.conds 0 f h.conditions)
      (λ u met. next_only (fail.NoValue i) (all_changes 0 ms) _
      (as_same (fail.NoValue (0 + i)) (fail.NoValue i) (all_changes 0 ms) (ap (λ (k : ℕ). fail.NoValue k) z) (without_only s by.args h.action.effs 0 i h.leaf h.changes h.leaf_is h.before h.without))))

  clashing_only : (i : ℕ) → IsFirstClash task s by i → FailsOnly (fail.Clash i) (step_from task s by)
  clashing_only i h =
      let ms = map (change_met s by.args) h.action.effs in
      from_instance (fail.Clash i) h.action h.of_action
      (next_wide (fail.Clash i) (first_unmet 0 (leaves_met s by.args h.action.conds)) _ (λ f. conditions_fail s by.args h.action.conds 0 f h.conditions)
      (λ u met. next_wide (fail.Clash i) (all_changes 0 ms) _ (λ f. changes_fail s by.args h.action.effs 0 h.changes f h.values)
      (λ changes gathered_are. let same : h.changes ≡ changes = one_list h.changes changes (sym h.values ∙ changes_are s by.args h.action.effs 0 changes gathered_are) in
      next_only (fail.Clash i) (first_clash 0 [] changes) _
      (only_of (fail.Clash i) (first_clash 0 [] changes) (Err (fail.Clash i)) (ap (first_clash 0 []) (sym same) ∙ clash_only h.changes i h.j h.leaf h.other h.leaf_is h.earlier h.other_is h.clash h.before) (inl refl)))))

  -- the step fails by its reason
  pub reason_only : (e : StepFail) → IsRefutal e → FailsBy task s by e → FailsOnly e (step_from task s by)
  reason_only (fail.Wide w) refutal h = absurd refutal
  reason_only fail.Arity refutal h = arity_only h
  reason_only fail.ArgType refutal h = type_only h
  reason_only (fail.Condition i) refutal h = condition_only i h
  reason_only (fail.NoValue i) refutal h = value_only i h
  reason_only (fail.Clash i) refutal h = clashing_only i h
  reason_only fail.Memory refutal h = absurd refutal

  -- ---- there is no step

  module _ (t : PlanState) (step : HasStep task s by t) where
    same_action : (a : Action) → slice_get task.actions by.action ≡ Some a → step.action ≡ a
    same_action a is = some_action step.action a (sym step.of_action.is_action ∙ is)

    no_step : (e : StepFail) → IsRefutal e → FailsBy task s by e → ⊥
    no_step (fail.Wide w) refutal h = absurd refutal
    no_step fail.Arity refutal h = h step.action step.of_action.is_action step.of_action.arity
    no_step fail.ArgType refutal h =
        let same = same_action h.action h.is_action in
        let never : true ≡ false = sym step.of_action.typed ∙ ap (λ (a : Action). all_fit task a.params by.args) same ∙ not_fit task h.action.params by.args h.place h.types h.object h.parameter h.argument h.unfit in cc
    no_step (fail.Condition i) refutal h =
        let same = same_action h.action h.of_action.is_action in
        let never : true ≡ false = sym (all_at (holds s by.args) h.action.conds i h.leaf h.leaf_is (ap (λ (a : Action). all_hold s by.args a.conds) (sym same) ∙ step.conditions)) ∙ h.unmet in cc
    no_step (fail.NoValue i) refutal h =
        let same = same_action h.action h.of_action.is_action in
        no_none s by.args h.action.effs i h.leaf step.changes h.leaf_is (ap (λ (a : Action). map (change_of s by.args) a.effs) (sym same) ∙ step.values) h.without
    no_step (fail.Clash i) refutal h =
        let same = same_action h.action h.of_action.is_action in
        let changes : step.changes ≡ h.changes = one_list step.changes h.changes (sym step.values ∙ ap (λ (a : Action). map (change_of s by.args) a.effs) same ∙ h.values) in
        let free : IsClean h.changes = subst IsClean changes step.clean in
        let never : true ≡ false = sym h.clash ∙ free h.j i h.other h.leaf h.earlier h.other_is h.leaf_is in cc
    no_step fail.Memory refutal h = absurd refutal

pub reason_none : (task : TaskParts) (s t : PlanState) (by : Instance) (e : StepFail) → IsRefutal e → FailsBy task s by e → HasStep task s by t → ⊥
reason_none task s t by e refutal h step = no_step task s by t step e refutal h
