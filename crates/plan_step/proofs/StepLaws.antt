-- A step that is made is a step, and one that fails, operations that pass 128 bits aside, is none.
use Rattle.std.proofs.Common.{◌≡◌, ℕ, zero, suc, ◌+◌, ◌<◌, ◌==◌, Bool, true, false, ◌&&◌, ◌||◌, cond, List, [], ◌∷◌, ◌++◌, map, length, take, Option, Some, None, Result, Ok, Err, refl, sym, ap, ap₂, subst, ◌∙◌, arith}
use Rattle.std.proofs.lemmas.List.{append_assoc, append-nil}
use Rattle.std.proofs.lemmas.Bool.{eqb-true}
use Rattle.std.proofs.Common.{eq-eqb}
use Rattle.std.specs.Prelude.{bytes_eq, slice_get}
use Rattle.std.specs.List.{list_any}
use Rattle.rational.specs.Fraction.{Fraction}
use Rattle.frac128.specs.declared.operations.Wide.{Wide}
use Rattle.pddl_task.specs.declared.action.Action.{Action}
use Rattle.pddl_task.specs.declared.instance.Instance.{Instance}
use Rattle.pddl_task.specs.declared.parts.TaskParts.{TaskParts}
use Rattle.pddl_task.specs.declared.condition.Cond.{Cond}
use Rattle.pddl_task.specs.declared.effect.Effect.{Effect}
use Rattle.pddl_task.specs.declared.effect.NumOp.{NumOp}
use Rattle.pddl_task.specs.declared.effect.NumOp.TheVariants.{Assign, Increase, Decrease, ScaleUp, ScaleDown}
use Rattle.frac128.specs.declared.operations.Op.{Op}
use Rattle.frac128.specs.declared.operations.Op.TheVariants as op
use Rattle.plan_step.specs.declared.failure.StepFail.{StepFail}
use Rattle.plan_step.specs.declared.failure.StepFail.TheVariants as fail
use Rattle.plan_step.specs.declared.touches.Touch.{Touch}
use Rattle.plan_step.specs.State.{PlanState}
use Rattle.plan_step.specs.Met.{Met, found, lacks, passes, and_then, passes_128, wide, operated}
use Rattle.plan_step.specs.Effects.{target_met, first_clash, changed, with_value, values_after, all_changes, change_met}
use Rattle.plan_step.specs.Conditions.{first_unmet, leaves_met}
use Rattle.plan_step.specs.Step.{then_next, action_with, action_for, typed_arguments, with_values, state_after, made_by, step_from}
use Rattle.plan_step.specs.Touches.{changes_of}
use Rattle.plan_step.specs.Making.{StepsBy}
use Rattle.plan_step.specs.inside.Touching.{changes_in}
use Rattle.plan_step.specs.Fitting.{fitting}
use Rattle.plan_step.specs.Meaning.{Change, put, change, clashes, truth_after, all_fit, IsClean, changed_by, value_after, IsInstanceOf, HasStep}
use Rattle.plan_step.specs.Laws.{IsWide}
use Rattle.plan_step.proofs.Meanings.{Agrees}
use Rattle.plan_step.proofs.LeafLaws.{conditions_hold, conditions_fail, changes_are, changes_fail, changed_agrees, HaveValues, have_values}
use Rattle.plan_step.proofs.Restoring.{one_call}
use Rattle.plan_step.proofs.Booleans.{flipped}
use Rattle.frac128.specs.Operations.{value_of}
use Rattle.plan_step.proofs.Values.{has_value}

-- ---- clashes
clash_free : {A : Type 0} (b : Bool) (e : StepFail) (r : Result A StepFail) (a : A) → cond b (Err e) r ≡ Ok a → (b ≡ false) × (r ≡ Ok a)
clash_free true e r a is = cc
clash_free false e r a is = (refl, is)

pub same_some : (c b : Change) → Some c ≡ Some b → c ≡ b
same_some c b is = cc

-- a change in a list without clashes clashes with none in front
clean_at : (front cs : List Change) (n j : ℕ) (b : Change) → first_clash n front cs ≡ Ok tt → slice_get cs j ≡ Some b → list_any (clashes b) (front ++ take j cs) ≡ false
clean_at front [] n j b is at = cc
clean_at front (c ∷ cs) n zero b is at =
    let s = clash_free (list_any (clashes c) front) (fail.Clash n) (first_clash (n + 1) (front ++ c ∷ []) cs) tt is in
    ap₂ (λ (d : Change) (ds : List Change). list_any (clashes d) ds) (sym (same_some c b at)) (append-nil front) ∙ s.0
clean_at front (c ∷ cs) n (suc j) b is at =
    let s = clash_free (list_any (clashes c) front) (fail.Clash n) (first_clash (n + 1) (front ++ c ∷ []) cs) tt is in
    ap (list_any (clashes b)) (sym (append_assoc front (c ∷ []) (take j cs))) ∙ clean_at (front ++ c ∷ []) cs (n + 1) j b s.1 at

either_true : (x y : Bool) → (x || y) ≡ false → (x ≡ false) × (y ≡ false)
either_true true y h = cc
either_true false y h = (refl, h)

pub not_any : (test : Change → Bool) (cs : List Change) (i : ℕ) (a : Change) → slice_get cs i ≡ Some a → list_any test cs ≡ false → test a ≡ false
not_any test [] i a at none = cc
not_any test (c ∷ cs) zero a at none = ap test (sym (same_some c a at)) ∙ (either_true (test c) (list_any test cs) none).0
not_any test (c ∷ cs) (suc i) a at none = not_any test cs i a at (either_true (test c) (list_any test cs) none).1

pub take_get : (cs : List Change) (i j : ℕ) (a : Change) → i < j → slice_get cs i ≡ Some a → slice_get (take j cs) i ≡ Some a
take_get [] i j a below at = cc
take_get (c ∷ cs) i zero a below at = absurd (omega arith)
take_get (c ∷ cs) zero (suc j) a below at = at
take_get (c ∷ cs) (suc i) (suc j) a below at = take_get cs i j a (omega arith) at

pub clean : (cs : List Change) → first_clash 0 [] cs ≡ Ok tt → IsClean cs
clean cs is = λ i j a b below at_i at_j. not_any (clashes b) (take j cs) i a (take_get cs i j a below at_i) (clean_at [] cs 0 j b is at_j)

-- the other way round
pub none_any : (test : Change → Bool) (cs : List Change) → ((i : ℕ) (a : Change) → slice_get cs i ≡ Some a → test a ≡ false) → list_any test cs ≡ false
none_any test [] h = refl
none_any test (c ∷ cs) h = ap₂ ◌||◌ (h 0 c refl) (none_any test cs (λ i a at. h (suc i) a at))

pub took : (cs : List Change) (i j : ℕ) (a : Change) → slice_get (take j cs) i ≡ Some a → (i < j) × (slice_get cs i ≡ Some a)
took [] i zero a at = cc
took [] i (suc j) a at = cc
took (c ∷ cs) i zero a at = cc
took (c ∷ cs) zero (suc j) a at = (omega arith, at)
took (c ∷ cs) (suc i) (suc j) a at = let s = took cs i j a at in (omega (arith, s.0), s.1)

no_clash : (front cs : List Change) (n : ℕ) → ((j : ℕ) (b : Change) → slice_get cs j ≡ Some b → list_any (clashes b) (front ++ take j cs) ≡ false) → first_clash n front cs ≡ Ok tt
no_clash front [] n h = refl
no_clash front (c ∷ cs) n h =
    ap (λ b. cond b (Err (fail.Clash n)) (first_clash (n + 1) (front ++ c ∷ []) cs)) (ap (list_any (clashes c)) (sym (append-nil front)) ∙ h 0 c refl)
    ∙ no_clash (front ++ c ∷ []) cs (n + 1) (λ j b at. ap (list_any (clashes b)) (append_assoc front (c ∷ []) (take j cs)) ∙ h (suc j) b at)

pub clean_passes : (cs : List Change) → IsClean cs → first_clash 0 [] cs ≡ Ok tt
clean_passes cs free = no_clash [] cs 0 (λ j b at_j. none_any (clashes b) (take j cs) (λ i a at_i. let s = took cs i j a at_i in free i j a b s.0 s.1 at_j))

-- ---- values
abbrev Values : Type 0
Values = ℕ → List ℕ → Option Fraction

agreed : (m : Met Fraction) (o : Option Fraction) (x : Fraction) → Agrees m o → m ≡ found x → o ≡ Some x
agreed m o x h is = let P : Met Fraction → Type 0 = λ n. Agrees n o in subst P is h

abbrev record_of : (ℕ → List ℕ → Bool) → Values → PlanState
record_of truth value = record { truth = truth; value = value }

found_then : {A : Type 0} (m : Met Fraction) (next : Fraction → Met A) (a : A) → and_then m next ≡ found a → (x : Fraction) × (m ≡ found x) × (next x ≡ found a)
found_then (found x) next a is = (x, refl, is)
found_then lacks next a is = cc
found_then (passes w) next a is = cc

no_lack : (b : Bool) (w : Wide) (x : Fraction) → cond b (passes w) (found x) ≡ lacks → ⊥
no_lack true w x is = cc
no_lack false w x is = cc

operation_there : (o : Op) (x y : Fraction) → operated o x y ≡ lacks → ⊥
operation_there o x y is = no_lack (passes_128 o x y) (wide o x y) (value_of o x y) is

value_step : (op : NumOp) (g : ℕ) (xs : List ℕ) (by x : Fraction) (more : List Change) (v : Values) (f : ℕ) (args : List ℕ) (b : Bool) → (g == f && bytes_eq xs args) ≡ b → changed_by op by (v g xs) ≡ Some x
    → value_after more f args (cond b (Some x) (v f args)) ≡ cond b (value_after more f args (changed_by op by (v f args))) (value_after more f args (v f args))
value_step op g xs by x more v f args true here changes = ap (value_after more f args) (sym changes ∙ ap (changed_by op by) (sym (one_call v g f xs args here)))
value_step op g xs by x more v f args false here changes = refl

pub values_are : (changes : List Change) (v w : Values) → values_after changes v ≡ found w → (f : ℕ) (args : List ℕ) → w f args ≡ value_after changes f args (v f args)
values_are [] v w is f args = let same : v ≡ w = cc in ap (λ (u : Values). u f args) (sym same)
values_are (put sign p xs ∷ changes) v w is f args = values_are changes v w is f args
values_are (change op g xs by ∷ changes) v w is f args =
    let t = found_then (changed op (v g xs) by) (λ x. values_after changes (with_value v g xs x)) w is in
    values_are changes (with_value v g xs t.0) w t.2 f args
    ∙ ap (λ b. value_after changes f args (cond b (Some t.0) (v f args))) (flipped f g args xs)
    ∙ value_step op g xs by t.0 changes v f args (g == f && bytes_eq xs args) refl (agreed (changed op (v g xs) by) (changed_by op by (v g xs)) t.0 (changed_agrees op (v g xs) by) t.1)

-- ---- no change lacks a value
with_target : (op : NumOp) (v : Option Fraction) (by : Fraction) → target_met op v ≡ found tt → changed op v by ≡ lacks → ⊥
with_target Assign v by h is = cc
with_target Increase None by h is = cc
with_target Increase (Some x) by h is = operation_there op.Add x by is
with_target Decrease None by h is = cc
with_target Decrease (Some x) by h is = operation_there op.Sub x by is
with_target ScaleUp None by h is = cc
with_target ScaleUp (Some x) by h is = operation_there op.Mul x by is
with_target ScaleDown None by h is = cc
with_target ScaleDown (Some x) by h is = operation_there op.Div x by is

kept_value : (op : NumOp) (b : Bool) (x : Fraction) (v : Option Fraction) → target_met op v ≡ found tt → target_met op (cond b (Some x) v) ≡ found tt
kept_value op true x v h = has_value op x
kept_value op false x v h = h

values_kept : (changes : List Change) (v : Values) (g : ℕ) (xs : List ℕ) (x : Fraction) → HaveValues v changes → HaveValues (with_value v g xs x) changes
values_kept [] v g xs x h = tt
values_kept (put sign p others ∷ changes) v g xs x h = (tt, values_kept changes v g xs x h.1)
values_kept (change op f args by ∷ changes) v g xs x h = (kept_value op (f == g && bytes_eq args xs) x (v f args) h.0, values_kept changes v g xs x h.1)

lacks_then : {A : Type 0} (m : Met Fraction) (next : Fraction → Met A) → (m ≡ lacks → ⊥) → ((x : Fraction) → next x ≡ lacks → ⊥) → and_then m next ≡ lacks → ⊥
lacks_then (found x) next h k is = k x is
lacks_then lacks next h k is = h refl
lacks_then (passes w) next h k is = cc

pub never_lacks : (changes : List Change) (v : Values) → HaveValues v changes → values_after changes v ≡ lacks → ⊥
never_lacks [] v h is = cc
never_lacks (put sign p xs ∷ changes) v h is = never_lacks changes v h.1 is
never_lacks (change op g xs by ∷ changes) v h is =
    lacks_then (changed op (v g xs) by) (λ x. values_after changes (with_value v g xs x)) (with_target op (v g xs) by h.0)
    (λ x. never_lacks changes (with_value v g xs x) (values_kept changes v g xs x h.1)) is

-- ---- the parts of a step
pub next_ok : {A B : Type 0} (r : Result A StepFail) (next : A → Result B StepFail) (b : B) → then_next r next ≡ Ok b → (a : A) × (r ≡ Ok a) × (next a ≡ Ok b)
next_ok (Ok a) next b is = (a, refl, is)
next_ok (Err e) next b is = cc

fits_count : (b : Bool) (a c : Action) → cond b (Ok a) (Err fail.Arity) ≡ Ok c → (b ≡ true) × (a ≡ c)
fits_count true a c is = let same : a ≡ c = cc in (refl, same)
fits_count false a c is = cc

pub action_is : (n : ℕ) (o : Option Action) (a : Action) → action_with n o ≡ Ok a → (o ≡ Some a) × (length a.params ≡ n)
action_is n None a is = cc
action_is n (Some b) a is =
    let s = fits_count (length b.params == n) b a is in
    (ap (λ (c : Action). Some c) s.1, ap (λ (c : Action). length c.params) (sym s.1) ∙ eqb-true (length b.params) n s.0)

pub typed_is : (b : Bool) → ◌≡◌ {A = Result (Unit {0}) StepFail} (cond b (Ok tt) (Err fail.ArgType)) (Ok tt) → b ≡ true
typed_is true is = refl
typed_is false is = cc

after_is : (changes : List Change) (old new : PlanState) (m : Met Values) → with_values changes old m ≡ Ok new → (m ≡ lacks → ⊥) → (w : Values) × (m ≡ found w) × ((p : ℕ) (args : List ℕ) → new.truth p args ≡ truth_after changes old.truth p args) × (new.value ≡ w)
after_is changes old new (found w) is there =
    let same : record_of (truth_after changes old.truth) w ≡ new = cc in
    (w, refl, λ p args. ap (λ (s : PlanState). s.truth p args) (sym same), ap (λ (s : PlanState). s.value) (sym same))
after_is changes old new lacks is there = absurd (there refl)
after_is changes old new (passes w) is there = cc

-- a step that is made is a step
pub step_has_step : (task : TaskParts) (old new : PlanState) (by : Instance) → step_from task old by ≡ Ok new → HasStep task old by new
unfolding step_from
step_has_step task old new by is =
    let a = next_ok (action_for task by) (λ a. then_next (typed_arguments task a by.args) (λ _. made_by old a by.args)) new is in
    let t = next_ok (typed_arguments task a.0 by.args) (λ _. made_by old a.0 by.args) new a.2 in
    let c = next_ok (first_unmet 0 (leaves_met old by.args a.0.conds)) _ new t.2 in
    let v = next_ok (all_changes 0 (map (change_met old by.args) a.0.effs)) _ new c.2 in
    let f = next_ok (first_clash 0 [] v.0) _ new v.2 in
    let b = after_is v.0 old new (values_after v.0 old.value) f.2 (never_lacks v.0 old.value (have_values old by.args a.0.effs 0 v.0 v.1)) in
    let s = action_is (length by.args) (slice_get task.actions by.action) a.0 a.1 in
    record {
      action = a.0;
      of_action = record {
        is_action = s.0;
        arity = s.1;
        typed = typed_is (all_fit task a.0.params by.args) t.1;
      };
      conditions = conditions_hold old by.args a.0.conds 0 c.1;
      changes = v.0;
      values = changes_are old by.args a.0.effs 0 v.0 v.1;
      clean = clean v.0 f.1;
      truth = b.2;
      value = λ g args. ap (λ (u : Values). u g args) b.3 ∙ values_are v.0 old.value b.0 b.1 g args;
    }

-- ---- the touches of a step that is made tell its changes
free_is : (r : Result (Unit {0}) StepFail) (ds cs : List Change) → then_next r (λ _. Ok ds) ≡ Ok cs → (r ≡ Ok tt) × (ds ≡ cs)
free_is (Ok u) ds cs is = let same : ds ≡ cs = cc in (refl, same)
free_is (Err e) ds cs is = cc

parts_are : (r : Result (Unit {0}) StepFail) (q : Result (List Change) StepFail) (free : List Change → Result (Unit {0}) StepFail) (cs : List Change)
    → then_next r (λ _. then_next q (λ changes. then_next (free changes) (λ _. Ok changes))) ≡ Ok cs → (r ≡ Ok tt) × (q ≡ Ok cs) × (free cs ≡ Ok tt)
parts_are (Ok u) (Ok ds) free cs is = let h = free_is (free ds) ds cs is in (refl, ap (λ (xs : List Change). Ok xs) h.1, ap free (sym h.1) ∙ h.0)
parts_are (Ok u) (Err e) free cs is = cc
parts_are (Err e) q free cs is = cc

steps-by : (old new : PlanState) (a : Action) (args : List ℕ) (changes : List Change) → changes_in old args a.conds a.effs ≡ Ok changes → state_after changes old ≡ Ok new → StepsBy old a args changes new
steps-by old new a args changes all after =
    let p = parts_are (first_unmet 0 (leaves_met old args a.conds)) (all_changes 0 (map (change_met old args) a.effs)) (first_clash 0 []) changes all in
    let b = after_is changes old new (values_after changes old.value) after (never_lacks changes old.value (have_values old args a.effs 0 changes p.1)) in
    record {
      conditions = conditions_hold old args a.conds 0 p.0;
      values = changes_are old args a.effs 0 changes p.1;
      clean = clean changes p.2;
      truth = b.2;
      value = λ g others. ap (λ (u : Values). u g others) b.3 ∙ values_are changes old.value b.0 b.1 g others;
    }

pub steps_by : (old placed new : PlanState) (a : Action) (args : List ℕ) (conds : List Cond) (effs : List Effect) (touches also : List Touch) → conds ≡ a.conds → effs ≡ a.effs
    → changes_in old args conds effs ≡ Ok (changes_of touches) → also ≡ touches → placed ≡ old → state_after (changes_of also) placed ≡ Ok new → StepsBy old a args (changes_of touches) new
steps_by old placed new a args conds effs touches also same_conds same_effs all same placed_same after =
    steps-by old new a args (changes_of touches)
    (sym (ap₂ (changes_in old args) same_conds same_effs) ∙ all)
    (sym (ap₂ (λ (ts : List Touch) (t : PlanState). state_after (changes_of ts) t) same placed_same) ∙ after)

-- ---- failures
next_fails : {A B : Type 0} (r : Result A StepFail) (next : A → Result B StepFail) (e : StepFail) → (r ≡ Err e → IsWide e) → ((a : A) → r ≡ Ok a → next a ≡ Err e → IsWide e) → then_next r next ≡ Err e → IsWide e
next_fails (Ok a) next e h k is = k a refl is
next_fails (Err f) next e h k is = let same : f ≡ e = cc in h (ap (λ (g : StepFail). Err g) same)

is_there : {A : Type 0} (r : Result A StepFail) (a : A) (e : StepFail) → r ≡ Ok a → r ≡ Err e → IsWide e
is_there r a e is also = cc

pub action_found : (n : ℕ) (o : Option Action) (a : Action) → o ≡ Some a → length a.params ≡ n → action_with n o ≡ Ok a
action_found n o a is arity = ap (action_with n) is ∙ ap (λ b. cond b (Ok a) (Err fail.Arity)) (eq-eqb (length a.params) n arity)

pub one_list : (cs ds : List Change) → map (λ (c : Change). Some c) cs ≡ map (λ (c : Change). Some c) ds → cs ≡ ds
one_list [] [] is = refl
one_list [] (d ∷ ds) is = cc
one_list (c ∷ cs) [] is = cc
one_list (c ∷ cs) (d ∷ ds) is =
    let head : c ≡ d = cc in
    let tail : map (λ (x : Change). Some x) cs ≡ map (λ (x : Change). Some x) ds = cc in
    ap₂ (λ (x : Change) (xs : List Change). x ∷ xs) head (one_list cs ds tail)

pub after_fails : (changes : List Change) (old : PlanState) (m : Met Values) (e : StepFail) → with_values changes old m ≡ Err e → IsWide e
after_fails changes old (found w) e is = cc
after_fails changes old lacks e is = cc
after_fails changes old (passes w) e is = let same : fail.Wide w ≡ e = cc in subst IsWide same tt

-- an instance that has a step fails, if at all, by an operation that passes
pub step_fails_wide : (task : TaskParts) (old new : PlanState) (by : Instance) (e : StepFail) → HasStep task old by new → step_from task old by ≡ Err e → IsWide e
unfolding step_from
step_fails_wide task old new by e h is =
    let there : action_for task by ≡ Ok h.action = action_found (length by.args) (slice_get task.actions by.action) h.action h.of_action.is_action h.of_action.arity in
    let typed : typed_arguments task h.action by.args ≡ Ok tt = ap (λ b. cond b (Ok tt) (Err fail.ArgType)) h.of_action.typed in
    let made : made_by old h.action by.args ≡ Err e =
    sym (ap (λ (r : Result Action StepFail). then_next r (λ a. then_next (typed_arguments task a by.args) (λ _. made_by old a by.args))) there ∙ ap (λ (r : Result (Unit {0}) StepFail). then_next r (λ _. made_by old h.action by.args)) typed) ∙ is in
    next_fails (first_unmet 0 (leaves_met old by.args h.action.conds)) _ e (conditions_fail old by.args h.action.conds 0 e h.conditions)
    (λ u met then_changes. next_fails (all_changes 0 (map (change_met old by.args) h.action.effs)) _ e (changes_fail old by.args h.action.effs 0 h.changes e h.values)
    (λ changes gathered then_clash. let same : h.changes ≡ changes = one_list h.changes changes (sym h.values ∙ changes_are old by.args h.action.effs 0 changes gathered) in
    next_fails (first_clash 0 [] changes) _ e (is_there (first_clash 0 [] changes) tt e (ap (first_clash 0 []) (sym same) ∙ clean_passes h.changes h.clean))
    (λ u free then_values. after_fails changes old (values_after changes old.value) e then_values) then_clash) then_changes) made

typed_parts : (r : Result (Unit {0}) StepFail) (b a : Action) → then_next r (λ _. Ok b) ≡ Ok a → (r ≡ Ok tt) × (b ≡ a)
typed_parts (Ok u) b a is = let same : b ≡ a = cc in (refl, same)
typed_parts (Err e) b a is = cc

fitting_parts : (r : Result Action StepFail) (typed : Action → Result (Unit {0}) StepFail) (a : Action) → then_next r (λ b. then_next (typed b) (λ _. Ok b)) ≡ Ok a → (r ≡ Ok a) × (typed a ≡ Ok tt)
fitting_parts (Ok b) typed a is = let h = typed_parts (typed b) b a is in (ap (λ (c : Action). Ok c) h.1, ap typed (sym h.1) ∙ h.0)
fitting_parts (Err e) typed a is = cc

-- where the conditions of an instance fail, its step does
pub conditions_step : (task : TaskParts) (s : PlanState) (by : Instance) (a : Action) → IsInstanceOf task by a → (e : StepFail) → first_unmet 0 (leaves_met s by.args a.conds) ≡ Err e → step_from task s by ≡ Err e
unfolding step_from
conditions_step task s by a h e fails =
    let there : action_for task by ≡ Ok a = action_found (length by.args) (slice_get task.actions by.action) a h.is_action h.arity in
    let typed : typed_arguments task a by.args ≡ Ok tt = ap (λ b. cond b (Ok tt) (Err fail.ArgType)) h.typed in
    ap (λ (r : Result Action StepFail). then_next r (λ a. then_next (typed_arguments task a by.args) (λ _. made_by s a by.args))) there
    ∙ ap (λ (r : Result (Unit {0}) StepFail). then_next r (λ _. made_by s a by.args)) typed
    ∙ ap (λ (r : Result (Unit {0}) StepFail). then_next r (λ _. then_next (all_changes 0 (map (change_met s by.args) a.effs)) (λ changes. then_next (first_clash 0 [] changes) (λ _. state_after changes s)))) fails

-- an instance that fits an action is one of it
pub fitting_instance : (task : TaskParts) (by : Instance) (a : Action) → fitting task by ≡ Ok a → IsInstanceOf task by a
fitting_instance task by a is =
    let b = fitting_parts (action_for task by) (λ c. typed_arguments task c by.args) a is in
    let s = action_is (length by.args) (slice_get task.actions by.action) a b.0 in
    record { is_action = s.0; arity = s.1; typed = typed_is (all_fit task a.params by.args) b.1 }
