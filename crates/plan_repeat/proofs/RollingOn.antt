-- Growing values: one, and those of all functions that are touched.
use Rattle.std.proofs.Common.{◌≡◌, ℕ, zero, suc, ◌+◌, ◌<◌, ◌≤◌, ◌==◌, Bool, true, false, ◌&&◌, ◌||◌, List, [], ◌∷◌, ◌++◌, map, length, get_or, drop, Result, Ok, Err, inr, ⊎_elim, refl, sym, ap, ap₂, subst, ◌∙◌, arith}
use Rattle.std.specs.Prelude.{bytes_eq}
use Rattle.std.specs.List.{list_any}
use Rattle.std.proofs.lemmas.List.{drop_more, drop_all, length_push, get_or_push, get_or_append_left}
use Rattle.std.proofs.lemmas.Bool.{cases_lt}
use lib.IntN.{pos}
use Rattle.algebra.proofs.Solve.{v, ◌⊕◌, ◌⊗◌, solve}
use Rattle.rational.specs.Fraction.{Fraction, whole, ◌+ℚ◌, ◌*ℚ◌}
use Rattle.rational.proofs.FieldLaws.{fraction-ring}
use Rattle.algebra.specs.Gcd.{gcd, gcd_in}
use Rattle.frac128.specs.Operations.{Answers, Passes}
use Rattle.frac128.specs.declared.operations.Op.TheVariants.{Add}
use Rattle.frac128.specs.declared.operations.Wide.{Wide}
use Rattle.plan_step.specs.declared.touches.Touch.{Touch}
use Rattle.plan_step.specs.declared.touches.Touch.TheVariants as touch
use Rattle.plan_step.specs.State.{PlanState}
use Rattle.plan_step.specs.Met.{wide}
use Rattle.plan_repeat.specs.StepsOn.{above_most}
use Rattle.plan_step.specs.Touches.{target_of, is_function, DiffersIn}
use Rattle.plan_repeat.specs.inside.Jumping.{IsGrowth, AreGrowths, on_by, Grows, IsTouchOp, rolled_by, HasRolled, AreRolled, IsSameOutside, IsRollOpOf}
use Rattle.plan_step.proofs.Booleans.{flipped}
use Rattle.plan_step.proofs.Truths.{one_state}
use Rattle.plan_step.proofs.Restoring.{chosen, one_call, differs_refl}
use Rattle.plan_step.proofs.Values.{none_of}

pub grown-answers : (x q n p : Fraction) (r : Result Fraction Wide) → p ≡ q *ℚ n → Answers Add x p r → Grows x q n r
grown-answers x q n p (Ok y) e h =
    h.1 ∙ ap (λ (u : Fraction). x +ℚ u) e ∙ solve fraction-ring (v 0 ⊕ v 1 ⊗ v 2) (v 0 ⊕ v 2 ⊗ v 1) (x ∷ q ∷ n ∷ []) refl
grown-answers x q n p (Err w) e h =
    (inr (h.1 ∙ ap (wide Add x) e), subst (λ (u : Wide). Passes u.op u.x u.y) (sym h.1) h.0)

pub most-passes : Passes above_most.op above_most.x above_most.y
unfolding gcd gcd_in
most-passes = (2, pos 170141183460469231731687303715884105728, omega arith, refl, omega arith)

pub most-is : (x y : Fraction) (w : Wide) → w ≡ wide Add x y → x ≡ whole (pos 170141183460469231731687303715884105727) → y ≡ whole (pos 1) → (w ≡ above_most) × Passes w.op w.x w.y
most-is x y w is e f =
    let same : w ≡ above_most = is ∙ ap₂ (wide Add) e f in
    (same, subst (λ (u : Wide). Passes u.op u.x u.y) (sym same) most-passes)

-- one item stands at a place, whatever stands for a missing one
same_item : (ts : List Touch) (i : ℕ) (u t : Touch) → i < length ts → t ≡ get_or ts i t → get_or ts i u ≡ t
same_item [] i u t l e = absurd (omega arith)
same_item (s ∷ ts) zero u t l e = sym e
same_item (s ∷ ts) (suc i) u t l e = same_item ts i u t (omega arith) e

-- ---- growths, one after another
pub record GrowthsBelow (now : PlanState) (touches : List Touch) (qs : List Fraction) (n : ℕ) : Type 0 where
  pub count : length qs ≡ n
  pub each : (i : ℕ) (t : Touch) → i < n → t ≡ get_or touches i t → IsGrowth now t (get_or qs i (whole (pos 0)))

module _ (now : PlanState) (touches : List Touch) where
  pub growths-start : (qs : List Fraction) → qs ≡ [] → GrowthsBelow now touches qs 0
  growths-start qs e = record { count = ap length e; each = λ i t l is. absurd (omega arith) }

  pub growths-next : (qs more : List Fraction) (n : ℕ) (t : Touch) (q : Fraction) → n < length touches → t ≡ get_or touches n t → more ≡ qs ++ q ∷ [] → IsGrowth now t q → GrowthsBelow now touches qs n → GrowthsBelow now touches more (n + 1)
  growths-next qs more n t q within is pushed g h = record {
    count = ap length pushed ∙ length_push qs q ∙ ap (λ (m : ℕ). m + 1) h.count;
    each = λ i u l at. subst (λ (rs : List Fraction). IsGrowth now u (get_or rs i (whole (pos 0)))) (sym pushed)
        (⊎_elim
        (λ below. subst (IsGrowth now u) (sym (get_or_append_left qs (q ∷ []) (whole (pos 0)) i (let c : length qs ≡ n = h.count in omega arith))) (h.each i u below at))
        (λ past.
        let c : length qs ≡ n = h.count in
        let e : i ≡ n = omega arith in
        let same : u ≡ t = at ∙ ap (λ (j : ℕ). get_or touches j u) e ∙ same_item touches n u t within is in
        subst (λ (w : Touch). IsGrowth now w (get_or (qs ++ q ∷ []) i (whole (pos 0)))) (sym same)
        (subst (IsGrowth now t) (sym (get_or_push qs q (whole (pos 0)) i (omega arith))) g))
        (cases_lt i n));
  }

  pub growths-done : (qs : List Fraction) (n : ℕ) → n ≤ length touches → length touches ≤ n → GrowthsBelow now touches qs n → AreGrowths now touches qs
  growths-done qs n l m h = record { length_is = let c : length qs ≡ n = h.count in omega arith; each = λ i t k is. h.each i t (omega arith) is }

-- ---- the functions that are touched get their values, one after another
module _ (t : Touch) (q n : Fraction) (rest : List Touch) (old new r : PlanState) where
  step-truth : new ≡ rolled_by t q n old → (p : ℕ) (args : List ℕ) → new.truth p args ≡ old.truth p args
  step-truth e p args = by_touch t e
    where
      by_touch : (u : Touch) → new ≡ rolled_by u q n old → new.truth p args ≡ old.truth p args
      by_touch (touch.Atom sign a others kept) e = ap (λ (s : PlanState). s.truth p args) e
      by_touch (touch.Function op f others by kept) e = ap (λ (s : PlanState). s.truth p args) e

  step-value : new ≡ rolled_by t q n old → HasRolled r t q n → ((f : ℕ) (args : List ℕ) → list_any (is_function f args) (target_of t ∷ map target_of rest) ≡ false → old.value f args ≡ r.value f args)
      → (f : ℕ) (args : List ℕ) → list_any (is_function f args) (map target_of rest) ≡ false → new.value f args ≡ r.value f args
  step-value e has before f args none = by_touch t e has before
    where
      by_touch : (u : Touch) → new ≡ rolled_by u q n old → HasRolled r u q n
          → ((f : ℕ) (args : List ℕ) → list_any (is_function f args) (target_of u ∷ map target_of rest) ≡ false → old.value f args ≡ r.value f args)
          → new.value f args ≡ r.value f args
      by_touch (touch.Atom sign a others kept) e has before = ap (λ (s : PlanState). s.value f args) e ∙ before f args none
      by_touch (touch.Function op g others by kept) e has before =
          ap (λ (s : PlanState). s.value f args) e
          ∙ chosen (f == g && bytes_eq args others) (on_by q n kept) (old.value f args) (r.value f args)
          (λ here. sym has ∙ one_call r.value f g args others here)
          (λ apart. before f args (ap (λ (b : Bool). b || list_any (is_function f args) (map target_of rest)) (flipped g f others args ∙ apart) ∙ none))

module _ (touches : List Touch) (qs : List Fraction) (n : Fraction) (start : PlanState) where
  -- so far: what is left of the touches tells where a state may still differ from the one that is meant
  pub record IsRolling (now : PlanState) (i : ℕ) : Type 0 where
    pub truth : (p : ℕ) (args : List ℕ) → now.truth p args ≡ start.truth p args
    pub value : (r : PlanState) → AreRolled touches qs n r → IsSameOutside touches start r
        → (f : ℕ) (args : List ℕ) → list_any (is_function f args) (map target_of (drop i touches)) ≡ false → now.value f args ≡ r.value f args

  pub rolling-start : IsRolling start 0
  rolling-start = record { truth = λ p args. refl; value = λ r rolled same f args none. same.value f args none }

  pub rolling-next : (now new : PlanState) (i : ℕ) (t : Touch) (q : Fraction) → i < length touches → t ≡ get_or touches i t → q ≡ get_or qs i (whole (pos 0))
      → new ≡ rolled_by t q n now → IsRolling now i → IsRolling new (i + 1)
  rolling-next now new i t q within is is_q e h =
      let split : drop i touches ≡ t ∷ drop (i + 1) touches = drop_more touches i t within ∙ ap (λ (u : Touch). u ∷ drop (i + 1) touches) (sym is) in
      record {
        truth = λ p args. step-truth t q n (drop (i + 1) touches) now new now e p args ∙ h.truth p args;
        value = λ r rolled same f args none.
            step-value t q n (drop (i + 1) touches) now new r e (subst (λ (x : Fraction). HasRolled r t x n) (sym is_q) (rolled.each i t within is))
            (λ g others apart. h.value r rolled same g others (ap (λ (us : List Touch). list_any (is_function g others) (map target_of us)) split ∙ apart))
            f args none;
      }

  pub rolling-done : (now : PlanState) (i : ℕ) → length touches ≤ i → IsRolling now i → (r : PlanState) → AreRolled touches qs n r → IsSameOutside touches start r → now ≡ r
  rolling-done now i past h = λ r rolled same.
      one_state now r (λ p args. h.truth p args ∙ same.truth p args)
      (λ f args. h.value r rolled same f args (ap (λ (us : List Touch). list_any (is_function f args) (map target_of us)) (drop_all i touches past)))

  pub rolling-passes : (i : ℕ) (t : Touch) (q : Fraction) (w : Wide) → i < length touches → t ≡ get_or touches i t → q ≡ get_or qs i (whole (pos 0)) → IsTouchOp t q n w → IsRollOpOf touches qs n w
  rolling-passes i t q w within is is_q h = record { i = i; t = t; within = within; is = is; operation = subst (λ (x : Fraction). IsTouchOp t x n w) is_q h }

-- a state in which one of the functions was changed differs in the targets
pub differs-rolled : (touches : List Touch) (i : ℕ) (t : Touch) (q n : Fraction) (old new : PlanState) → i < length touches → t ≡ get_or touches i t → new ≡ rolled_by t q n old → DiffersIn (map target_of touches) old new
differs-rolled touches i (touch.Atom sign p args kept) q n old new within is e = differs_refl (map target_of touches) old new e
differs-rolled touches i (touch.Function op f args by kept) q n old new within is e = subst (λ (s : PlanState). DiffersIn (map target_of touches) old s) (sym e) (record {
  truth = λ p others none. refl;
  value = λ g others none. chosen (g == f && bytes_eq others args) (on_by q n kept) (old.value g others) (old.value g others)
      (λ here. let e : true ≡ false = sym here ∙ flipped g f others args ∙ none_of (is_function g others) touches i (touch.Function op f args by kept) within is none in cc)
      (λ apart. refl);
})

-- the growth at a place, whatever stands for a missing one
pub growth-at : (qs : List Fraction) (touches : List Touch) (i : ℕ) (q : Fraction) → length qs ≡ length touches → i < length touches → q ≡ get_or qs i q → q ≡ get_or qs i (whole (pos 0))
growth-at qs touches i q same l is = default_at qs i q (omega arith) is
  where
    default_at : (qs : List Fraction) (i : ℕ) (q : Fraction) → i < length qs → q ≡ get_or qs i q → q ≡ get_or qs i (whole (pos 0))
    default_at [] i q l is = absurd (omega arith)
    default_at (p ∷ ps) zero q l is = is
    default_at (p ∷ ps) (suc i) q l is = default_at ps i q (omega arith) is
