-- Each failure of a step has its reason.
use Rattle.std.proofs.Common.{◌≡◌, ℕ, zero, suc, ◌+◌, ◌<◌, ◌==◌, Bool, true, false, ◌&&◌, ◌||◌, cond, List, [], ◌∷◌, ◌++◌, map, length, take, ◌⊎◌, inl, inr, Option, Some, None, Result, Ok, Err, refl, sym, ap, ap₂, subst, ◌∙◌, arith, eq-eqb}
use Rattle.std.proofs.lemmas.List.{append_assoc, append-nil}
use Rattle.std.specs.Prelude.{slice_get}
use Rattle.std.specs.List.{list_any}
use Rattle.pddl_task.specs.declared.action.Action.{Action}
use Rattle.pddl_task.specs.declared.condition.Cond.{Cond}
use Rattle.pddl_task.specs.declared.effect.Effect.{Effect}
use Rattle.pddl_task.specs.declared.instance.Instance.{Instance}
use Rattle.pddl_task.specs.declared.parts.TaskParts.{TaskParts}
use Rattle.plan_step.specs.declared.failure.StepFail.{StepFail}
use Rattle.plan_step.specs.declared.failure.StepFail.TheVariants as fail
use Rattle.plan_step.specs.State.{PlanState}
use Rattle.plan_step.specs.Met.{Met, found, lacks, passes}
use Rattle.plan_step.specs.Effects.{change_met, all_changes, first_clash, values_after}
use Rattle.plan_step.specs.Conditions.{leaf_met, leaves_met, first_unmet}
use Rattle.plan_step.specs.Step.{then_next, action_with, action_for, typed_arguments, made_by, step_from}
use Rattle.plan_step.specs.Meaning.{Change, clashes, fits, all_fit, holds, all_hold, change_of, IsClean, IsInstanceOf}
use Rattle.plan_step.specs.Laws.{IsWide, TellsWide}
use Rattle.plan_step.specs.Reasons.{FailsBy}
use Rattle.plan_step.proofs.Meanings.{Agrees}
use Rattle.plan_step.proofs.LeafLaws.{LeafAgrees, leaf_agrees, change_agrees, gathered, gathered_is, on_err, conditions_hold, changes_are}
use Rattle.plan_step.proofs.StepLaws.{same_some, not_any, took, take_get, action_is, typed_is, after_fails}
use Rattle.plan_step.proofs.WideLaws.{wide_step}

-- a row of tests fails at the first, or after it
next_err : {A B : Type 0} (r : Result A StepFail) (next : A → Result B StepFail) (e : StepFail) → then_next r next ≡ Err e → (r ≡ Err e) ⊎ ((a : A) × (r ≡ Ok a) × (next a ≡ Err e))
next_err (Ok a) next e is = inr (a, refl, is)
next_err (Err f) next e is = let same : f ≡ e = cc in inl (ap (λ (g : StepFail). Err g) same)

wide_is : (w e : StepFail) → IsWide w → w ≡ e → IsWide e
wide_is w e wide is = subst IsWide is wide

-- ---- the action

counted_fails : (b : Bool) (a : Action) (e : StepFail) → cond b (Ok a) (Err fail.Arity) ≡ Err e → (b ≡ false) × (fail.Arity ≡ e)
counted_fails true a e is = cc
counted_fails false a e is = let same : fail.Arity ≡ e = cc in (refl, same)

not_counted : (a b : Action) (n : ℕ) → (length a.params == n) ≡ false → Some a ≡ Some b → length b.params ≡ n → ⊥
not_counted a b n differs is arity =
    let same : a ≡ b = cc in
    let equal : (length a.params == n) ≡ true = eq-eqb (length a.params) n (ap (λ (c : Action). length c.params) same ∙ arity) in cc

action_fails : (n : ℕ) (o : Option Action) (e : StepFail) → action_with n o ≡ Err e → (fail.Arity ≡ e) × ((a : Action) → o ≡ Some a → length a.params ≡ n → ⊥)
action_fails n None e is = let same : fail.Arity ≡ e = cc in (same, λ a found arity. cc)
action_fails n (Some b) e is = let s = counted_fails (length b.params == n) b e is in (s.1, λ a found arity. not_counted b a n s.0 found arity)

-- ---- the arguments

either_false : (x y : Bool) → (x && y) ≡ false → (x ≡ false) ⊎ ((x ≡ true) × (y ≡ false))
either_false true y h = inr (refl, h)
either_false false y h = inl refl

-- an argument that doesn't fit
pub record UnfitAt (task : TaskParts) (params : List (List ℕ)) (args : List ℕ) : Type 0 where
  pub place : ℕ
  pub types : List ℕ
  pub parameter : slice_get params place ≡ Some types
  pub object : ℕ
  pub argument : slice_get args place ≡ Some object
  pub unfit : fits task types object ≡ false

unfit_at : (task : TaskParts) (params : List (List ℕ)) (args : List ℕ) → all_fit task params args ≡ false → UnfitAt task params args
unfit_at task [] args is = cc
unfit_at task (types ∷ more) [] is = cc
unfit_at task (types ∷ more) (o ∷ args) is =
    elim (either_false (fits task types o) (all_fit task more args) is) [
      | inl h ↦ record { place = 0; types = types; parameter = refl; object = o; argument = refl; unfit = h }
      | inr h ↦ let u = unfit_at task more args h.1 in record { place = suc u.place; types = u.types; parameter = u.parameter; object = u.object; argument = u.argument; unfit = u.unfit }
    ]

typed_fails : (b : Bool) (e : StepFail) → ◌≡◌ {A = Result (Unit {0}) StepFail} (cond b (Ok tt) (Err fail.ArgType)) (Err e) → (b ≡ false) × (fail.ArgType ≡ e)
typed_fails true e is = cc
typed_fails false e is = let same : fail.ArgType ≡ e = cc in (refl, same)

-- ---- the leaves

at_zero : (n : ℕ) → n + 0 ≡ n
at_zero n = omega arith

at_next : (n i : ℕ) → n + suc i ≡ n + 1 + i
at_next n i = omega arith

module _ (s : PlanState) (args : List ℕ) where
  -- the first leaf of a condition that doesn't hold
  pub record UnmetAt (conds : List Cond) (i : ℕ) : Type 0 where
    pub leaf : Cond
    pub leaf_is : slice_get conds i ≡ Some leaf
    pub before : all_hold s args (take i conds) ≡ true
    pub unmet : holds s args leaf ≡ false

  abbrev Unmet : List Cond → ℕ → StepFail → Type 0
  Unmet conds n e = IsWide e ⊎ ((i : ℕ) × (fail.Condition (n + i) ≡ e) × UnmetAt conds i)

  unmet_here : (c : Cond) (conds : List Cond) (n : ℕ) (e : StepFail) → holds s args c ≡ false → fail.Condition n ≡ e → Unmet (c ∷ conds) n e
  unmet_here c conds n e h same = inr (0, ap (λ (k : ℕ). fail.Condition k) (at_zero n) ∙ same, record { leaf = c; leaf_is = refl; before = refl; unmet = h })

  unmet_later : (c : Cond) (conds : List Cond) (n : ℕ) (e : StepFail) → holds s args c ≡ true → Unmet conds (n + 1) e → Unmet (c ∷ conds) n e
  unmet_later c conds n e h (inl wide) = inl wide
  unmet_later c conds n e h (inr (i, is, u)) =
      inr (suc i, ap (λ (k : ℕ). fail.Condition k) (at_next n i) ∙ is, record { leaf = u.leaf; leaf_is = u.leaf_is; before = ap₂ ◌&&◌ h u.before; unmet = u.unmet })

  unmet_by : (m : Met Bool) (c : Cond) (conds : List Cond) (n : ℕ) (e : StepFail) → LeafAgrees m (holds s args c)
      → (first_unmet (n + 1) (leaves_met s args conds) ≡ Err e → Unmet conds (n + 1) e) → first_unmet n (m ∷ leaves_met s args conds) ≡ Err e → Unmet (c ∷ conds) n e
  unmet_by (found true) c conds n e h k is = unmet_later c conds n e h (k is)
  unmet_by (found false) c conds n e h k is = let same : fail.Condition n ≡ e = cc in unmet_here c conds n e h same
  unmet_by lacks c conds n e h k is = let same : fail.Condition n ≡ e = cc in unmet_here c conds n e h same
  unmet_by (passes w) c conds n e h k is = let same : fail.Wide w ≡ e = cc in inl (wide_is (fail.Wide w) e tt same)

  unmet : (conds : List Cond) (n : ℕ) (e : StepFail) → first_unmet n (leaves_met s args conds) ≡ Err e → Unmet conds n e
  unmet [] n e is = cc
  unmet (c ∷ conds) n e is = unmet_by (leaf_met s args c) c conds n e (leaf_agrees s args c) (unmet conds (n + 1) e) is

  -- the first leaf of an effect that lacks a value
  pub record WithoutAt (effs : List Effect) (i : ℕ) : Type 0 where
    pub leaf : Effect
    pub leaf_is : slice_get effs i ≡ Some leaf
    pub changes : List Change
    pub before : map (change_of s args) (take i effs) ≡ map Some changes
    pub without : change_of s args leaf ≡ None

  abbrev Without : List Effect → ℕ → StepFail → Type 0
  Without effs n e = IsWide e ⊎ ((i : ℕ) × (fail.NoValue (n + i) ≡ e) × WithoutAt effs i)

  without_later : (f : Effect) (c : Change) (effs : List Effect) (n : ℕ) (e : StepFail) → change_of s args f ≡ Some c → Without effs (n + 1) e → Without (f ∷ effs) n e
  without_later f c effs n e h (inl wide) = inl wide
  without_later f c effs n e h (inr (i, is, u)) =
      inr
      (suc i, ap (λ (k : ℕ). fail.NoValue k) (at_next n i) ∙ is, record { leaf = u.leaf; leaf_is = u.leaf_is; changes = c ∷ u.changes; before = ap₂ (λ (o : Option Change) (os : List (Option Change)). o ∷ os) h u.before; without = u.without })

  without_by : (m : Met Change) (f : Effect) (effs : List Effect) (n : ℕ) (e : StepFail) (rest : Result (List Change) StepFail) → Agrees m (change_of s args f)
      → (rest ≡ Err e → Without effs (n + 1) e) → gathered n m rest ≡ Err e → Without (f ∷ effs) n e
  without_by (found c) f effs n e rest h k is = without_later f c effs n e h (k (on_err s args c rest e is))
  without_by lacks f effs n e rest h k is =
      let same : fail.NoValue n ≡ e = cc in
      inr (0, ap (λ (j : ℕ). fail.NoValue j) (at_zero n) ∙ same, record { leaf = f; leaf_is = refl; changes = []; before = refl; without = h })
  without_by (passes w) f effs n e rest h k is = let same : fail.Wide w ≡ e = cc in inl (wide_is (fail.Wide w) e tt same)

  without : (effs : List Effect) (n : ℕ) (e : StepFail) → all_changes n (map (change_met s args) effs) ≡ Err e → Without effs n e
  without [] n e is = cc
  without (f ∷ effs) n e is =
      let ms = map (change_met s args) effs in
      without_by (change_met s args f) f effs n e (all_changes (n + 1) ms) (change_agrees s args f) (without effs (n + 1) e) (sym (gathered_is n (change_met s args f) ms) ∙ is)

-- ---- clashes

-- the first leaf that clashes with one in front of it
pub record ClashAt (front cs : List Change) (i : ℕ) : Type 0 where
  pub leaf : Change
  pub leaf_is : slice_get cs i ≡ Some leaf
  pub clash : list_any (clashes leaf) (front ++ take i cs) ≡ true
  pub before : (j : ℕ) (b : Change) → j < i → slice_get cs j ≡ Some b → list_any (clashes b) (front ++ take j cs) ≡ false

clash_case : {A : Type 0} (b : Bool) (x e : StepFail) (r : Result A StepFail) → cond b (Err x) r ≡ Err e → ((b ≡ true) × (x ≡ e)) ⊎ ((b ≡ false) × (r ≡ Err e))
clash_case true x e r is = let same : x ≡ e = cc in inl (refl, same)
clash_case false x e r is = inr (refl, is)

clash_before : (front : List Change) (c : Change) (cs : List Change) (i : ℕ) → list_any (clashes c) front ≡ false
    → ((j : ℕ) (b : Change) → j < i → slice_get cs j ≡ Some b → list_any (clashes b) ((front ++ c ∷ []) ++ take j cs) ≡ false)
    → (j : ℕ) (b : Change) → j < suc i → slice_get (c ∷ cs) j ≡ Some b → list_any (clashes b) (front ++ take j (c ∷ cs)) ≡ false
clash_before front c cs i free rest zero b below at = ap₂ (λ (d : Change) (ds : List Change). list_any (clashes d) ds) (sym (same_some c b at)) (append-nil front) ∙ free
clash_before front c cs i free rest (suc j) b below at = ap (list_any (clashes b)) (sym (append_assoc front (c ∷ []) (take j cs))) ∙ rest j b (omega arith) at

clash_at : (front cs : List Change) (n : ℕ) (e : StepFail) → first_clash n front cs ≡ Err e → (i : ℕ) × (fail.Clash (n + i) ≡ e) × ClashAt front cs i
clash_at front [] n e is = cc
clash_at front (c ∷ cs) n e is =
    elim (clash_case (list_any (clashes c) front) (fail.Clash n) e (first_clash (n + 1) (front ++ c ∷ []) cs) is) [
      | inl h ↦
          (0, ap (λ (k : ℕ). fail.Clash k) (at_zero n) ∙ h.1, record { leaf = c; leaf_is = refl; clash = ap (list_any (clashes c)) (append-nil front) ∙ h.0; before = λ j b below at. absurd (omega arith) })
      | inr h ↦
          let u = clash_at (front ++ c ∷ []) cs (n + 1) e h.1 in (
            suc u.0,
            ap (λ (k : ℕ). fail.Clash k) (at_next n u.0) ∙ u.1,
            record {
              leaf = u.2.leaf;
              leaf_is = u.2.leaf_is;
              clash = ap (list_any (clashes u.2.leaf)) (sym (append_assoc front (c ∷ []) (take u.0 cs))) ∙ u.2.clash;
              before = clash_before front c cs u.0 h.0 u.2.before;
            },
          )
    ]

either_true : (x y : Bool) → (x || y) ≡ true → (x ≡ true) ⊎ (y ≡ true)
either_true true y h = inl refl
either_true false y h = inr h

-- one of a list, where there is one
any_at : (test : Change → Bool) (cs : List Change) → list_any test cs ≡ true → (j : ℕ) × (a : Change) × (slice_get cs j ≡ Some a) × (test a ≡ true)
any_at test [] is = cc
any_at test (c ∷ cs) is =
    elim (either_true (test c) (list_any test cs) is) [
      | inl h ↦ (0, c, refl, h)
      | inr h ↦ let u = any_at test cs h in (suc u.0, u.1, u.2, u.3)
    ]

-- no two in front of the first one clash
clean_before : (cs : List Change) (i : ℕ) → ((j : ℕ) (b : Change) → j < i → slice_get cs j ≡ Some b → list_any (clashes b) (take j cs) ≡ false) → IsClean (take i cs)
clean_before cs i free =
    λ j k a b below at_j at_k.
    let first = took cs j i a at_j in
    let second = took cs k i b at_k in
    not_any (clashes b) (take k cs) j a (take_get cs j k a below first.1) (free k b second.0 second.1)

-- ---- the step

module _ (task : TaskParts) (s : PlanState) (by : Instance) where
  -- as another failure that is the same
  as_same : (e f : StepFail) → e ≡ f → FailsBy task s by e → FailsBy task s by f
  as_same e f is h = let P : StepFail → Type 0 = λ g. FailsBy task s by g in subst P is h

  wide_reason : (e : StepFail) → IsWide e → TellsWide e → FailsBy task s by e
  wide_reason (fail.Wide w) wide tells = tells
  wide_reason fail.Arity wide tells = absurd wide
  wide_reason fail.ArgType wide tells = absurd wide
  wide_reason (fail.Condition i) wide tells = absurd wide
  wide_reason (fail.NoValue i) wide tells = absurd wide
  wide_reason (fail.Clash i) wide tells = absurd wide
  wide_reason fail.Memory wide tells = absurd wide

  module _ (a : Action) (of_action : IsInstanceOf task by a) where
    unmet_reason : (e : StepFail) → TellsWide e → Unmet s by.args a.conds 0 e → FailsBy task s by e
    unmet_reason e tells (inl wide) = wide_reason e wide tells
    unmet_reason e tells (inr (i, is, u)) =
        let z : i ≡ 0 + i = omega arith in
        as_same (fail.Condition i) e (ap (λ (k : ℕ). fail.Condition k) z ∙ is) (record { action = a; of_action = of_action; leaf = u.leaf; leaf_is = u.leaf_is; before = u.before; unmet = u.unmet })

    without_reason : all_hold s by.args a.conds ≡ true → (e : StepFail) → TellsWide e → Without s by.args a.effs 0 e → FailsBy task s by e
    without_reason conditions e tells (inl wide) = wide_reason e wide tells
    without_reason conditions e tells (inr (i, is, u)) =
        let z : i ≡ 0 + i = omega arith in
        as_same (fail.NoValue i) e (ap (λ (k : ℕ). fail.NoValue k) z ∙ is)
        (record { action = a; of_action = of_action; conditions = conditions; leaf = u.leaf; leaf_is = u.leaf_is; changes = u.changes; before = u.before; without = u.without })

    clash_reason : all_hold s by.args a.conds ≡ true → (changes : List Change) → map (change_of s by.args) a.effs ≡ map Some changes → (e : StepFail) → first_clash 0 [] changes ≡ Err e → FailsBy task s by e
    clash_reason conditions changes values e is =
        let u = clash_at [] changes 0 e is in
        let o = any_at (clashes u.2.leaf) (take u.0 changes) u.2.clash in
        let p = took changes o.0 u.0 o.1 o.2 in
        let z : u.0 ≡ 0 + u.0 = omega arith in
        as_same (fail.Clash u.0) e (ap (λ (k : ℕ). fail.Clash k) z ∙ u.1)
        (record {
          action = a;
          of_action = of_action;
          conditions = conditions;
          changes = changes;
          values = values;
          leaf = u.2.leaf;
          leaf_is = u.2.leaf_is;
          j = o.0;
          earlier = p.0;
          other = o.1;
          other_is = p.1;
          clash = o.3;
          before = clean_before changes u.0 u.2.before;
        })

    made_reason : (e : StepFail) → TellsWide e → made_by s a by.args ≡ Err e → FailsBy task s by e
    made_reason e tells is =
        elim (next_err (first_unmet 0 (leaves_met s by.args a.conds)) _ e is) [
          | inl h ↦ unmet_reason e tells (unmet s by.args a.conds 0 e h)
          | inr c ↦
              let conditions = conditions_hold s by.args a.conds 0 c.1 in
              elim (next_err (all_changes 0 (map (change_met s by.args) a.effs)) _ e c.2) [
                | inl h ↦ without_reason conditions e tells (without s by.args a.effs 0 e h)
                | inr v ↦
                    elim (next_err (first_clash 0 [] v.0) _ e v.2) [
                      | inl h ↦ clash_reason conditions v.0 (changes_are s by.args a.effs 0 v.0 v.1) e h
                      | inr f ↦ wide_reason e (after_fails v.0 s (values_after v.0 s.value) e f.2) tells
                    ]
              ]
        ]

  action_reason : (a : Action) → action_for task by ≡ Ok a → (e : StepFail) → TellsWide e → then_next (typed_arguments task a by.args) (λ _. made_by s a by.args) ≡ Err e → FailsBy task s by e
  action_reason a found_action e tells is =
      let there = action_is (length by.args) (slice_get task.actions by.action) a found_action in
      elim (next_err (typed_arguments task a by.args) (λ _. made_by s a by.args) e is) [
        | inl h ↦
            let f = typed_fails (all_fit task a.params by.args) e h in
            let u = unfit_at task a.params by.args f.0 in
            as_same fail.ArgType e f.1
            (record { action = a; is_action = there.0; arity = there.1; place = u.place; types = u.types; parameter = u.parameter; object = u.object; argument = u.argument; unfit = u.unfit })
        | inr t ↦ made_reason a (record { is_action = there.0; arity = there.1; typed = typed_is (all_fit task a.params by.args) t.1 }) e tells t.2
      ]

  reason_by : (e : StepFail) → TellsWide e → step_from task s by ≡ Err e → FailsBy task s by e
  unfolding step_from
  reason_by e tells is =
      elim (next_err (action_for task by) (λ a. then_next (typed_arguments task a by.args) (λ _. made_by s a by.args)) e is) [
        | inl h ↦ let f = action_fails (length by.args) (slice_get task.actions by.action) e h in as_same fail.Arity e f.0 f.1
        | inr a ↦ action_reason a.0 a.1 e tells a.2
      ]

-- a step that fails has the reason that it tells
pub failure_reason : (task : TaskParts) (s : PlanState) (by : Instance) (e : StepFail) → step_from task s by ≡ Err e → FailsBy task s by e
failure_reason task s by e is = reason_by task s by e (wide_step task s by e is) is
