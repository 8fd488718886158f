-- A jump over repetitions: what it tests and what it makes.
use Rattle.std.specs.Prelude.{◌≡◌, ◌⊎◌, ℕ, ◌+◌, ◌-◌, ◌^◌, ◌<◌, ◌≤◌, true, false, List, map, length, pos, slice_index_or, Option, Some, None, Result, Ok, Err}
use Rattle.std.specs.List.{list_any}
use Rattle.std.specs.Option.{option_map}
use Rattle.rational.specs.Fraction.{Fraction, whole, ◌+ℚ◌, ◌*ℚ◌, ◌-ℚ◌}
use Rattle.frac128.specs.Operations.{Passes}
use Rattle.frac128.specs.declared.operations.Op.TheVariants.{Sub}
use Rattle.frac128.specs.declared.operations.Wide.{Wide}
use Rattle.pddl_task.specs.declared.condition.Cond.{Cond}
use Rattle.plan_step.specs.declared.touches.Touch.{Touch}
use Rattle.plan_step.specs.declared.touches.Touch.TheVariants as touch
use Rattle.plan_step.specs.State.{PlanState}
use Rattle.plan_step.specs.declared.failure.StepFail.{StepFail}
use Rattle.plan_step.specs.declared.failure.StepFail.TheVariants as fail
use Rattle.plan_repeat.specs.declared.failure.RepeatFail.{RepeatFail}
use Rattle.plan_step.specs.Laws.{IsWide}
use Rattle.plan_step.specs.Meaning.{Change, truth_after, all_hold}
use Rattle.plan_repeat.specs.Rolling.{growth, rolled}
use Rattle.plan_repeat.specs.StepsOn.{IsGrowthOp, above_most}
use Rattle.plan_repeat.specs.Jump.{IsRollOp, tested, hold_after, IsTestOp, IsJumpOp}
use Rattle.plan_step.specs.Places.{with_function}
use Rattle.plan_step.specs.Touches.{target_of, is_function, changes_of, EachTouch, IsKept}

-- ---- growths

-- by how much the function of a touch grew, if it had a value before and has one now; an atom grows by 0
abbrev pub IsGrowth : PlanState → Touch → Fraction → Type 0
IsGrowth now (touch.Atom sign p args old) q = q ≡ whole (pos 0)
IsGrowth now (touch.Function op f args by old) q = (x y : Fraction) → old ≡ Some x → now.value f args ≡ Some y → q ≡ y -ℚ x

pub record AreGrowths (now : PlanState) (touches : List Touch) (qs : List Fraction) : Type 0 where
  pub length_is : length qs ≡ length touches
  pub each : (i : ℕ) (t : Touch) → i < length touches → t ≡ slice_index_or touches i t → IsGrowth now t (slice_index_or qs i (whole (pos 0)))

-- an operation passes by which it is found how much the function of a touch grew
abbrev pub IsUnfoundAt : PlanState → Touch → Type 0
IsUnfoundAt now (touch.Atom sign p args old) = ⊥
IsUnfoundAt now (touch.Function op f args by old) = (x : Fraction) × (y : Fraction) × (old ≡ Some x) × (now.value f args ≡ Some y) × Passes Sub y x

pub record IsUnfound (now : PlanState) (touches : List Touch) : Type 0 where
  pub i : ℕ
  pub t : Touch
  pub within : i < length touches
  pub is : t ≡ slice_index_or touches i t
  pub unfound : IsUnfoundAt now t

-- ---- values n steps on

abbrev pub on_by : Fraction → Fraction → Option Fraction → Option Fraction
on_by q n o = option_map (λ x. x +ℚ n *ℚ q) o

abbrev pub Grows : Fraction → Fraction → Fraction → Result Fraction Wide → Type 0
Grows x q n (Ok y) = y ≡ x +ℚ n *ℚ q
Grows x q n (Err w) = IsGrowthOp x q n w × Passes w.op w.x w.y

-- an operation of a value, where there is one
abbrev pub IsValueOp : Option Fraction → Fraction → Fraction → Wide → Type 0
IsValueOp None q n w = ⊥
IsValueOp (Some x) q n w = IsGrowthOp x q n w × Passes w.op w.x w.y

abbrev pub GrowsValue : Option Fraction → Fraction → Fraction → Result (Option Fraction) Wide → Type 0
GrowsValue o q n (Ok p) = p ≡ on_by q n o
GrowsValue o q n (Err w) = IsValueOp o q n w

-- an operation of the function of a touch
abbrev pub IsTouchOp : Touch → Fraction → Fraction → Wide → Type 0
IsTouchOp (touch.Atom sign p args old) q n w = ⊥
IsTouchOp (touch.Function op f args by old) q n w = IsValueOp old q n w

-- the function of a touch has its value n steps on
abbrev pub rolled_by : Touch → Fraction → Fraction → PlanState → PlanState
rolled_by (touch.Atom sign p args old) q n state = state
rolled_by (touch.Function op f args by old) q n state = with_function state f args (on_by q n old)

abbrev pub RollsTouch : Touch → Fraction → Fraction → PlanState → PlanState → Result (Unit {0}) Wide → Type 0
RollsTouch t q n old new (Ok _) = new ≡ rolled_by t q n old
RollsTouch t q n old new (Err w) = IsTouchOp t q n w × (new ≡ old)

-- a state has the values n steps on of the functions that are touched
abbrev pub HasRolled : PlanState → Touch → Fraction → Fraction → Type 0
HasRolled r (touch.Atom sign p args old) q n = Unit {0}
HasRolled r (touch.Function op f args by old) q n = r.value f args ≡ on_by q n old

pub record AreRolled (touches : List Touch) (qs : List Fraction) (n : Fraction) (r : PlanState) : Type 0 where
  pub each : (i : ℕ) (t : Touch) → i < length touches → t ≡ slice_index_or touches i t → HasRolled r t (slice_index_or qs i (whole (pos 0))) n

-- outside of the functions that are touched two states are the same
pub record IsSameOutside (touches : List Touch) (s r : PlanState) : Type 0 where
  pub truth : (p : ℕ) (args : List ℕ) → s.truth p args ≡ r.truth p args
  pub value : (f : ℕ) (args : List ℕ) → list_any (is_function f args) (map target_of touches) ≡ false → s.value f args ≡ r.value f args

pub record IsRollOpOf (touches : List Touch) (qs : List Fraction) (n : Fraction) (w : Wide) : Type 0 where
  pub i : ℕ
  pub t : Touch
  pub within : i < length touches
  pub is : t ≡ slice_index_or touches i t
  pub operation : IsTouchOp t (slice_index_or qs i (whole (pos 0))) n w

abbrev pub RollsAll : List Touch → List Fraction → Fraction → PlanState → PlanState → Result (Unit {0}) Wide → Type 0
RollsAll touches qs n old new (Ok _) = (r : PlanState) → AreRolled touches qs n r → IsSameOutside touches old r → new ≡ r
RollsAll touches qs n old new (Err w) = IsRollOpOf touches qs n w

-- so many steps as a fraction
abbrev pub Multiplies : ℕ → Result Fraction Wide → Type 0
Multiplies n (Ok x) = x ≡ whole (pos n)
Multiplies n (Err w) = (2 ^ 127 ≤ n) × (w ≡ above_most) × Passes w.op w.x w.y

-- ---- what a jump stands on

-- by how much a step grows the function of a touch
abbrev pub HasGrowth : List Change → Touch → Fraction → Type 0
HasGrowth changes (touch.Atom sign p args kept) q = Unit {0}
HasGrowth changes (touch.Function op f args by kept) q = q ≡ growth changes f args

-- what a jump knows of the touches of the first step, and of the state that it is in
pub record IsBase (s : PlanState) (touches : List Touch) (qs : List Fraction) (now : PlanState) : Type 0 where
  pub kept : EachTouch (IsKept s) touches
  pub grown : (i : ℕ) (t : Touch) → i < length touches → t ≡ slice_index_or touches i t → HasGrowth (changes_of touches) t (slice_index_or qs i (whole (pos 0)))
  pub truth : (p : ℕ) (args : List ℕ) → now.truth p args ≡ truth_after (changes_of touches) s.truth p args
  pub outside : (f : ℕ) (args : List ℕ) → list_any (is_function f args) (map target_of touches) ≡ false → now.value f args ≡ s.value f args

-- the state so many steps on is made, or an operation of making it passes
abbrev pub RollsTo : List Touch → List Fraction → ℕ → PlanState → PlanState → Result (Unit {0}) Wide → Type 0
RollsTo touches qs n old new (Ok _) = (s : PlanState) → IsBase s touches qs old → new ≡ rolled (changes_of touches) s n
RollsTo touches qs n old new (Err w) = (s : PlanState) → IsBase s touches qs old → IsRollOp (changes_of touches) s n w × Passes w.op w.x w.y

-- an operation of making the state passes, or the conditions are tested there
pub record IsRollFail (changes : List Change) (s : PlanState) (n : ℕ) (r : Result (Unit {0}) StepFail) : Type 0 where
  pub w : Wide
  pub is : r ≡ Err (fail.Wide w)
  pub operation : IsRollOp changes s n w
  pub passes : Passes w.op w.x w.y

abbrev pub TestsAt : List ℕ → List Cond → List Touch → List Fraction → ℕ → PlanState → PlanState → Result (Unit {0}) StepFail → Type 0
TestsAt args conds touches qs n old new r =
    (s : PlanState) → IsBase s touches qs old
    → IsRollFail (changes_of touches) s n r ⊎ ((new ≡ rolled (changes_of touches) s n) × (r ≡ tested args conds (changes_of touches) s n))

-- ---- the first repetition that fails

-- an operation of evaluating a repetition passes
pub record PassesAt (args : List ℕ) (conds : List Cond) (changes : List Change) (s : PlanState) (last : ℕ) (f : RepeatFail) : Type 0 where
  pub w : Wide
  pub is : f.fail ≡ fail.Wide w
  pub operation : IsTestOp args conds changes s last f.at w
  pub passes : Passes w.op w.x w.y

-- the conditions hold after n steps and fail after one more
pub record IsFirstFailing (args : List ℕ) (conds : List Cond) (changes : List Change) (s : PlanState) (last : ℕ) (f : RepeatFail) : Type 0 where
  pub n : ℕ
  pub number : f.at ≡ n + 2
  pub within : n < last
  pub holds : hold_after args conds changes s n ≡ true
  pub fails : tested args conds changes s (n + 1) ≡ Err f.fail
  pub refuted : IsWide f.fail → ⊥

abbrev pub FindsFirst : List ℕ → List Cond → List Touch → List Fraction → ℕ → StepFail → PlanState → RepeatFail → Type 0
FindsFirst args conds touches qs last e old f =
    (s : PlanState) → IsBase s touches qs old → all_hold s args conds ≡ true → tested args conds (changes_of touches) s last ≡ Err e
    → PassesAt args conds (changes_of touches) s last f ⊎ IsFirstFailing args conds (changes_of touches) s last f

-- ---- the whole jump

-- the state after all repetitions is made, or an operation of that passes
abbrev pub EndsAt : List Touch → List Fraction → ℕ → PlanState → PlanState → Result (Unit {0}) RepeatFail → Type 0
EndsAt touches qs times old new (Ok _) = (s : PlanState) → IsBase s touches qs old → new ≡ rolled (changes_of touches) s times
EndsAt touches qs times old new (Err f) =
    (s : PlanState) → IsBase s touches qs old → (w : Wide) × (f.at ≡ times) × (f.fail ≡ fail.Wide w) × IsRollOp (changes_of touches) s times w × Passes w.op w.x w.y

-- an operation of the jump passes
pub record IsJumpFail (args : List ℕ) (conds : List Cond) (changes : List Change) (s : PlanState) (times : ℕ) (f : RepeatFail) : Type 0 where
  pub w : Wide
  pub is : f.fail ≡ fail.Wide w
  pub operation : IsJumpOp args conds changes s times f.at w
  pub passes : Passes w.op w.x w.y

abbrev pub JumpsTo : List ℕ → List Cond → List Change → PlanState → ℕ → PlanState → Result (Unit {0}) RepeatFail → Type 0
JumpsTo args conds changes s times new (Ok _) = (hold_after args conds changes s (times - 1) ≡ true) × (new ≡ rolled changes s times)
JumpsTo args conds changes s times new (Err f) = IsJumpFail args conds changes s times f ⊎ IsFirstFailing args conds changes s (times - 1) f

-- after the last repetition is tested with this failure
abbrev pub LastFails : List ℕ → List Cond → List Touch → List Fraction → ℕ → StepFail → PlanState → RepeatFail → Type 0
LastFails args conds touches qs times e old f =
    ((w : Wide) × (e ≡ fail.Wide w) × (f.at ≡ times) × (f.fail ≡ fail.Wide w))
    ⊎ ((IsWide e → ⊥) × FindsFirst args conds touches qs (times - 1) e old f)

abbrev pub Jumps : List ℕ → List Cond → List Touch → List Fraction → ℕ → PlanState → PlanState → Result (Unit {0}) RepeatFail → Type 0
Jumps args conds touches qs times old new r =
    (s : PlanState) → IsBase s touches qs old → all_hold s args conds ≡ true → JumpsTo args conds (changes_of touches) s times new r
