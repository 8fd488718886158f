-- The first step of an instance, by its touches; and where it rolls, what a jump stands on.
use Rattle.std.proofs.Common.{◌≡◌, ℕ, zero, suc, ◌<◌, ◌==◌, Bool, true, false, ◌&&◌, cond, List, [], ◌∷◌, length, get_or, Option, Some, None, Ok, refl, sym, ap, subst, ◌∙◌, arith}
use Rattle.std.specs.Prelude.{is_some, bytes_eq}
use Rattle.std.specs.List.{list_all}
use Rattle.std.proofs.lemmas.Bool.{and_parts}
use lib.IntN.{pos}
use Rattle.rational.specs.Fraction.{Fraction, whole, ◌+ℚ◌}
use Rattle.pddl_task.specs.Task.{is_changing_func}
use Rattle.pddl_task.specs.declared.action.Action.{Action}
use Rattle.pddl_task.specs.declared.effect.NumOp.{NumOp}
use Rattle.pddl_task.specs.declared.effect.NumOp.TheVariants.{Assign, Increase, Decrease, ScaleUp, ScaleDown}
use Rattle.pddl_task.specs.declared.instance.Instance.{Instance}
use Rattle.pddl_task.specs.declared.parts.TaskParts.{TaskParts}
use Rattle.plan_step.specs.declared.touches.Touch.{Touch}
use Rattle.plan_step.specs.declared.touches.Touch.TheVariants as touch
use Rattle.plan_step.specs.State.{PlanState}
use Rattle.plan_step.specs.Met.{found}
use Rattle.plan_step.specs.Making.{StepsBy}
use Rattle.plan_step.specs.Fitting.{fitting}
use Rattle.plan_step.proofs.StepLaws.{fitting_instance}
use Rattle.plan_step.specs.Meaning.{adds_up, HasStep}
use Rattle.plan_step.specs.Effects.{target_met}
use Rattle.plan_step.specs.Touches.{change_in, changes_of, EachTouch, IsKept, HasTarget, target_of, is_function}
use Rattle.plan_repeat.specs.Rolling.{is_even, amount_of, growth, IsRollable}
use Rattle.plan_repeat.specs.inside.Jumping.{HasGrowth, IsGrowth, AreGrowths, IsBase, IsUnfoundAt}
use Rattle.plan_repeat.specs.inside.Repeating.{IsBegun, NoneGrows, IsApart, Rolls}
use Rattle.plan_repeat.specs.inside.Repeating as inside
use Rattle.plan_repeat.specs.Repeat.{IsInTurn, apart, unfound}
use Rattle.plan_step.proofs.Restoring.{one_call}
use Rattle.plan_repeat.proofs.RolledSteps.{is_sum, all-sums, literals-told}
use Rattle.plan_repeat.proofs.Bases.{HasOld, base-first}

-- a sum needs the value that was there
some_there : (o : Option Fraction) (op : NumOp) → adds_up op ≡ true → target_met op o ≡ found tt → is_some o ≡ true
some_there (Some x) op sum h = refl
some_there None Assign sum h = absurd (cc)
some_there None Increase sum h = absurd (cc)
some_there None Decrease sum h = absurd (cc)
some_there None ScaleUp sum h = absurd (cc)
some_there None ScaleDown sum h = absurd (cc)

has_old : (s : PlanState) (touches : List Touch) (qs : List Fraction) (t : Touch) → is_sum (change_in t) ≡ true → IsKept s t → HasTarget s t → HasOld s touches qs t
has_old s touches qs (touch.Atom sign p args kept) sum h k = tt
has_old s touches qs (touch.Function op f args by kept) sum h k = ap is_some h ∙ some_there (s.value f args) op sum k

sum_at : (touches : List Touch) (i : ℕ) (t : Touch) → i < length touches → t ≡ get_or touches i t → list_all is_sum (changes_of touches) ≡ true → is_sum (change_in t) ≡ true
sum_at [] i t l is all = absurd (omega arith)
sum_at (u ∷ us) zero t l is all = ap (λ (w : Touch). is_sum (change_in w)) is ∙ (and_parts (is_sum (change_in u)) (list_all is_sum (changes_of us)) all).0
sum_at (u ∷ us) (suc i) t l is all = sum_at us i t (omega arith) is (and_parts (is_sum (change_in u)) (list_all is_sum (changes_of us)) all).1

-- some touch stands at each place
record TouchAt (touches : List Touch) (i : ℕ) : Type 0 where
  pub t : Touch
  pub is : t ≡ get_or touches i t

touch_at : (touches : List Touch) (i : ℕ) → i < length touches → TouchAt touches i
touch_at [] i l = absurd (omega arith)
touch_at (u ∷ us) zero l = record { t = u; is = refl }
touch_at (u ∷ us) (suc i) l = let h = touch_at us i (omega arith) in record { t = h.t; is = h.is }

-- what grows is a function
pub record GrowsSome (touches : List Touch) : Type 0 where
  pub func : ℕ
  pub objects : List ℕ
  pub grows : growth (changes_of touches) func objects ≡ whole (pos 0) → ⊥

grows_some : (touches : List Touch) (now : PlanState) (t : Touch) (q : Fraction) → (q ≡ whole (pos 0) → ⊥) → IsGrowth now t q → HasGrowth (changes_of touches) t q → GrowsSome touches
grows_some touches now (touch.Atom sign p args kept) q other is has = absurd (other is)
grows_some touches now (touch.Function op f args by kept) q other is has = record { func = f; objects = args; grows = λ e. other (has ∙ e) }

module _ (task : TaskParts) (by : Instance) (action : Action) (touches : List Touch) (s now : PlanState) (h : IsBegun task by action touches s now) where
  unfoldable pub begun-step : HasStep task s by now
  begun-step = record {
    action = action;
    of_action = h.of_action;
    conditions = h.steps.conditions;
    changes = changes_of touches;
    values = h.steps.values;
    clean = h.steps.clean;
    truth = h.steps.truth;
    value = h.steps.value;
  }

  module _ (qs : List Fraction) (r : Rolls task now by.args action.conds action.effs touches qs) where
    sums : list_all is_sum (changes_of touches) ≡ true
    sums = all-sums (is_changing_func task.actions) s by.args action.effs (changes_of touches) h.steps.values r.even

    pub begun-base : IsBase s touches qs now
    begun-base = base-first s touches qs now h.steps.truth h.steps.value sums h.kept
        (λ i t l is. has_old s touches qs t (sum_at touches i t l is sums) (h.kept i t l is) (h.targets i t l is)) r.growths

    some : GrowsSome touches
    some =
        let count : length qs ≡ length touches = r.growths.length_is in
        let inside : r.some.place < length qs = r.some.within in
        let within : r.some.place < length touches = omega arith in
        let a = touch_at touches r.some.place within in
        grows_some touches now a.t (get_or qs r.some.place (whole (pos 0))) r.some.grows (r.growths.each r.some.place a.t within a.is) (begun-base.grown r.some.place a.t within a.is)

    pub begun-rolls : IsRollable task action by.args (changes_of touches)
    unfolding begun-step
    begun-rolls = record {
      even = r.even;
      keeps_literals = sym (literals-told task s now by begun-step) ∙ r.literals;
      func = some.func;
      objects = some.objects;
      grows = some.grows;
    }

-- ---- an instance that is apart
false_true : (a b : Bool) → (a && b) ≡ false → a ≡ true → b ≡ true → ⊥
false_true true true h e f = cc
false_true true false h e f = cc
false_true false b h e f = cc

-- a function that grows stands among the touches
record TouchedAt (f : ℕ) (args : List ℕ) (touches : List Touch) : Type 0 where
  pub i : ℕ
  pub t : Touch
  pub within : i < length touches
  pub is : t ≡ get_or touches i t
  pub on : is_function f args (target_of t) ≡ true

touched-next : (f : ℕ) (args : List ℕ) (u : Touch) (touches : List Touch) → TouchedAt f args touches → TouchedAt f args (u ∷ touches)
touched-next f args u touches h = let l = h.within in record { i = suc h.i; t = h.t; within = omega arith; is = h.is; on = h.on }

touched-here : (f : ℕ) (args : List ℕ) (u : Touch) (touches : List Touch) (b : Bool) (x y : Fraction) → is_function f args (target_of u) ≡ b → (cond b x y ≡ whole (pos 0) → ⊥) → ((y ≡ whole (pos 0) → ⊥) → TouchedAt f args touches) → TouchedAt f args (u ∷ touches)
touched-here f args u touches true x y on other rest = record { i = 0; t = u; within = omega arith; is = refl; on = on }
touched-here f args u touches false x y on other rest = touched-next f args u touches (rest other)

grows-touched : (f : ℕ) (args : List ℕ) (touches : List Touch) → (growth (changes_of touches) f args ≡ whole (pos 0) → ⊥) → TouchedAt f args touches
grows-touched f args [] other = absurd (other refl)
grows-touched f args (touch.Atom sign p others kept ∷ more) other = touched-next f args (touch.Atom sign p others kept) more (grows-touched f args more other)
grows-touched f args (touch.Function op g others by kept ∷ more) other =
    touched-here f args (touch.Function op g others by kept) more (g == f && bytes_eq others args) (amount_of op by +ℚ growth (changes_of more) f args) (growth (changes_of more) f args) refl other (grows-touched f args more)

no-growth-at : (touches : List Touch) (f : ℕ) (args : List ℕ) (t : Touch) (q : Fraction) → HasGrowth (changes_of touches) t q → q ≡ whole (pos 0) → is_function f args (target_of t) ≡ true → growth (changes_of touches) f args ≡ whole (pos 0)
no-growth-at touches f args (touch.Atom sign p others kept) q h z on = cc
no-growth-at touches f args (touch.Function op g others by kept) q h z on = one_call (growth (changes_of touches)) g f others args on ∙ sym h ∙ z

module _ (task : TaskParts) (by : Instance) (action : Action) (touches : List Touch) (s now : PlanState) (h : IsBegun task by action touches s now) where
  abbrev step : HasStep task s by now
  step = begun-step task by action touches s now h

  unfound-at : (t : Touch) → IsKept s t → IsUnfoundAt now t → IsInTurn task s by
  unfound-at (touch.Atom sign p others kept) is u = absurd u
  unfound-at (touch.Function op f others by_ kept) is u = unfound now step f others u.0 u.1 (sym is ∙ u.2) u.3 u.4

  still-apart : (qs : List Fraction) → list_all (is_even (is_changing_func task.actions)) action.effs ≡ true → AreGrowths now touches qs → NoneGrows qs → IsRollable task action by.args (changes_of touches) → ⊥
  still-apart qs even growths none r =
      let sums = all-sums (is_changing_func task.actions) s by.args action.effs (changes_of touches) h.steps.values even in
      let base = base-first s touches qs now h.steps.truth h.steps.value sums h.kept
      (λ i t l is. has_old s touches qs t (sum_at touches i t l is sums) (h.kept i t l is) (h.targets i t l is)) growths in
      let g = grows-touched r.func r.objects touches r.grows in
      let count : length qs ≡ length touches = growths.length_is in
      let below : g.i < length touches = g.within in
      r.grows (no-growth-at touches r.func r.objects g.t (get_or qs g.i (whole (pos 0))) (base.grown g.i g.t g.within g.is) (none g.i (omega arith)) g.on)

  pub apart-in-turn : IsApart task now by.args action.conds action.effs touches → IsInTurn task s by
  unfolding begun-step
  apart-in-turn (inside.uneven e) = apart now step (λ r. false_true _ _ e r.even (literals-told task s now by step ∙ r.keeps_literals))
  apart-in-turn (inside.unfound u) = unfound-at u.t (h.kept u.i u.t u.within u.is) u.unfound
  apart-in-turn (inside.still qs even growths none) = apart now step (still-apart qs even growths none)

-- what `make` tells of its touches
pub is-begun : (task : TaskParts) (by : Instance) (action : Action) (args : List ℕ) (touches also : List Touch) (s now : PlanState) → fitting task by ≡ Ok action → args ≡ by.args → also ≡ touches
    → StepsBy s action args (changes_of touches) now → EachTouch (IsKept s) touches → EachTouch (HasTarget s) touches → IsBegun task by action also s now
is-begun task by action args touches also s now fits same same_touches steps kept targets =
    subst (λ (ts : List Touch). IsBegun task by action ts s now) (sym same_touches) (record {
      of_action = fitting_instance task by action fits;
      steps = subst (λ (xs : List ℕ). StepsBy s action xs (changes_of touches) now) same steps;
      kept = kept;
      targets = targets;
    })
