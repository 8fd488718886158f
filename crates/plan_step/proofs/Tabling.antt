-- Clashes by a table of sums.
use Rattle.std.proofs.Common.{◌≡◌, ℕ, ◌+◌, ◌<◌, ◌==◌, Bool, true, false, not, ◌&&◌, ◌||◌, cond, List, Option, [], ◌∷◌, ◌++◌, length, get_or, take, drop, Some, None, Err, refl, sym, ap, ap₂, subst, ◌∙◌}
use Rattle.std.proofs.lemmas.List.{at_drop_more}
use Rattle.std.proofs.lemmas.List.Folds.{list_any-append}
use Rattle.std.specs.Prelude.{bytes_eq, if◌then◌else◌}
use Rattle.std.specs.List.{list_any}
use Rattle.ground_map.specs.GroundMap.{value_at}
use Rattle.rational.specs.Fraction.{Fraction}
use Rattle.pddl_task.specs.declared.effect.NumOp.{NumOp}
use Rattle.plan_step.specs.declared.failure.StepFail.TheVariants as fail
use Rattle.plan_step.specs.declared.touches.Touch.{Touch}
use Rattle.plan_step.specs.Effects.{first_clash}
use Rattle.plan_step.specs.Meaning.{Change, put, change, adds_up, clashes}
use Rattle.plan_step.specs.Touches.{change_in, changes_of}
use Rattle.plan_step.specs.inside.Sums.{Table, clash_with, clash_told, IsAdded}
use Rattle.plan_step.proofs.Booleans.{flipped, or_false, neither_true, number_itself, arguments_itself}
use Rattle.plan_step.proofs.Restoring.{chosen, one_call}
use Rattle.plan_step.proofs.Placing.{changes_more}

-- ---- what a table says of some changes

abbrev pub changes_function : ℕ → List ℕ → Change → Bool
changes_function f args (put sign p others) = false
changes_function f args (change op g others by) = g == f && bytes_eq others args

abbrev pub is_no_sum : ℕ → List ℕ → Change → Bool
is_no_sum f args (put sign p others) = false
is_no_sum f args (change op g others by) = (g == f && bytes_eq others args) && not (adds_up op)

abbrev pub told : List Change → ℕ → List ℕ → Option Bool
told changes f args = if list_any (changes_function f args) changes then Some (not (list_any (is_no_sum f args) changes)) else None

pub record Tells (changes : List Change) (table : Table) : Type 0 where
  pub says : (f : ℕ) (args : List ℕ) → value_at table 0 (f ∷ args) ≡ told changes f args

-- ---- what it answers

any_same : {X : Type 0} (p q : X → Bool) → ((x : X) → p x ≡ q x) → (xs : List X) → list_any p xs ≡ list_any q xs
any_same p q h [] = refl
any_same p q h (x ∷ xs) = ap₂ ◌||◌ (h x) (any_same p q h xs)

any_none : {X : Type 0} (p : X → Bool) → ((x : X) → p x ≡ false) → (xs : List X) → list_any p xs ≡ false
any_none p h [] = refl
any_none p h (x ∷ xs) = ap₂ ◌||◌ (h x) (any_none p h xs)

not_not : (b : Bool) → not (not b) ≡ b
not_not true = refl
not_not false = refl

and_true : (b : Bool) → (b && true) ≡ b
and_true true = refl
and_true false = refl

module _ (f : ℕ) (args : List ℕ) where
  -- a change clashes with one whose test of sums is this
  abbrev clash_test : Bool → Change → Bool
  clash_test adds (put sign p others) = false
  clash_test adds (change op g others by) = (f == g && bytes_eq args others) && not (adds && adds_up op)

  of_sum : (c : Change) → clash_test true c ≡ is_no_sum f args c
  of_sum (put sign p others) = refl
  of_sum (change op g others by) = ap (λ b. b && not (adds_up op)) (flipped f g args others)

  of_other : (c : Change) → clash_test false c ≡ changes_function f args c
  of_other (put sign p others) = refl
  of_other (change op g others by) = and_true (f == g && bytes_eq args others) ∙ flipped f g args others

  less : (b c : Bool) → b ≡ false → (b && c) ≡ false
  less b c h = ap (λ x. x && c) h

  unnamed : (changes : List Change) → list_any (changes_function f args) changes ≡ false → list_any (is_no_sum f args) changes ≡ false
  unnamed [] h = refl
  unnamed (put sign p others ∷ changes) h = unnamed changes h
  unnamed (change op g others by ∷ changes) h =
      let k = neither_true (g == f && bytes_eq others args) (list_any (changes_function f args) changes) h in
      ap₂ ◌||◌ (less (g == f && bytes_eq others args) (not (adds_up op)) k.0) (unnamed changes k.1)

  sum_case : (named no_sum : Bool) → (named ≡ false → no_sum ≡ false) → no_sum ≡ clash_with true (cond named (Some (not no_sum)) None)
  sum_case true no_sum h = sym (not_not no_sum)
  sum_case false no_sum h = h refl

  other_case : (named no_sum : Bool) → named ≡ clash_with false (cond named (Some (not no_sum)) None)
  other_case true no_sum = refl
  other_case false no_sum = refl

  by_adds : (adds : Bool) (changes : List Change) → list_any (clash_test adds) changes ≡ clash_with adds (told changes f args)
  by_adds true changes = any_same (clash_test true) (is_no_sum f args) of_sum changes ∙ sum_case (list_any (changes_function f args) changes) (list_any (is_no_sum f args) changes) (unnamed changes)
  by_adds false changes = any_same (clash_test false) (changes_function f args) of_other changes ∙ other_case (list_any (changes_function f args) changes) (list_any (is_no_sum f args) changes)

  -- ---- one more change of the function
  kept : (named no_sum adds : Bool) → (named ≡ false → no_sum ≡ false) → clash_with adds (cond named (Some (not no_sum)) None) ≡ false → adds ≡ not (no_sum || (not adds || false))
  kept true true true h k = cc
  kept true true false h k = cc
  kept true false true h k = refl
  kept true false false h k = cc
  kept false true adds h k = let e : true ≡ false = h refl in cc
  kept false false true h k = refl
  kept false false false h k = refl

same_test : (op : NumOp) (f : ℕ) (args : List ℕ) (by : Fraction) (c : Change) → clashes (change op f args by) c ≡ clash_test f args (adds_up op) c
same_test op f args by (put sign p others) = refl
same_test op f args by (change other g others amount) = refl

-- the table tells whether a change clashes
pub clash_is : (changes : List Change) (table : List (List (List ℕ × Bool))) → Tells changes table → (c : Change) → list_any (clashes c) changes ≡ clash_told c table
clash_is changes table tells (put sign p args) = any_none (clashes (put sign p args)) (λ c. refl) changes
clash_is changes table tells (change op f args by) =
    any_same (clashes (change op f args by)) (clash_test f args (adds_up op)) (same_test op f args by) changes ∙ by_adds f args (adds_up op) changes ∙ ap (clash_with (adds_up op)) (sym (tells.says f args))

-- ---- the table after one more change
module _ (changes : List Change) where
  told_push : (c : Change) (g : ℕ) (xs : List ℕ)
      → told (changes ++ c ∷ []) g xs ≡ cond (list_any (changes_function g xs) changes || (changes_function g xs c || false)) (Some (not (list_any (is_no_sum g xs) changes || (is_no_sum g xs c || false)))) None
  told_push c g xs = ap₂ (λ m n. cond m (Some (not n)) None) (list_any-append (changes_function g xs) changes (c ∷ [])) (list_any-append (is_no_sum g xs) changes (c ∷ []))

  none_more : (c : Change) (g : ℕ) (xs : List ℕ) → changes_function g xs c ≡ false → is_no_sum g xs c ≡ false → told (changes ++ c ∷ []) g xs ≡ told changes g xs
  none_more c g xs h k =
      told_push c g xs
      ∙ ap₂ (λ m n. cond (list_any (changes_function g xs) changes || (m || false)) (Some (not (list_any (is_no_sum g xs) changes || (n || false)))) None) h k
      ∙ ap₂ (λ m n. cond m (Some (not n)) None) (or_false (list_any (changes_function g xs) changes)) (or_false (list_any (is_no_sum g xs) changes))

  or_true : (b : Bool) → (b || true) ≡ true
  or_true true = refl
  or_true false = refl

  own : (op : NumOp) (f : ℕ) (args : List ℕ) (by : Fraction) → list_any (clashes (change op f args by)) changes ≡ false → changes_function f args (change op f args by) ≡ true
      → Some (adds_up op) ≡ told (changes ++ change op f args by ∷ []) f args
  own op f args by free is =
      ap Some (kept f args (list_any (changes_function f args) changes) (list_any (is_no_sum f args) changes) (adds_up op) (unnamed f args changes)
      (sym (any_same (clashes (change op f args by)) (clash_test f args (adds_up op)) (same_test op f args by) changes ∙ by_adds f args (adds_up op) changes) ∙ free))
      ∙ sym (told_push (change op f args by) f args
      ∙ ap (λ b. cond (list_any (changes_function f args) changes || (b || false)) (Some (not (list_any (is_no_sum f args) changes || ((b && not (adds_up op)) || false)))) None) is
      ∙ ap (λ b. cond b (Some (not (list_any (is_no_sum f args) changes || (not (adds_up op) || false)))) None) (or_true (list_any (changes_function f args) changes)))

  at : (op : NumOp) (f : ℕ) (args : List ℕ) (by : Fraction) → list_any (clashes (change op f args by)) changes ≡ false → (g : ℕ) (xs : List ℕ)
      → cond (g == f && bytes_eq xs args) (Some (adds_up op)) (told changes g xs) ≡ told (changes ++ change op f args by ∷ []) g xs
  at op f args by free g xs = chosen (g == f && bytes_eq xs args) (Some (adds_up op)) (told changes g xs) (told (changes ++ change op f args by ∷ []) g xs)
      (λ here. own op f args by free (ap₂ (λ a b. a && b) (number_itself f) (arguments_itself args)) ∙ one_call (told (changes ++ change op f args by ∷ [])) g f xs args here)
      (λ apart. let e : changes_function g xs (change op f args by) ≡ false = flipped f g args xs ∙ apart in
      sym (none_more (change op f args by) g xs e (ap (λ b. b && not (adds_up op)) e)))

  pub tells_more : (old new : List (List (List ℕ × Bool))) (c : Change) → Tells changes old → list_any (clashes c) changes ≡ false → IsAdded c old new → Tells (changes ++ c ∷ []) new
  tells_more old new (put sign p args) tells free added = record { says = λ g xs. ap (λ (t : List (List (List ℕ × Bool))). value_at t 0 (g ∷ xs)) added ∙ tells.says g xs ∙ sym (none_more (put sign p args) g xs refl refl) }
  tells_more old new (change op f args by) tells free added = record {
    says = λ g xs. added.values 0 (g ∷ xs) ∙ ap (λ v. cond (g == f && bytes_eq xs args) (Some (adds_up op)) v) (tells.says g xs) ∙ at op f args by free g xs;
  }

pub head_kept : (c : Change) (old new : List (List (List ℕ × Bool))) → IsAdded c old new → 0 < length old → 0 < length new
head_kept (put sign p args) old new added h = subst (λ (t : List (List (List ℕ × Bool))). 0 < length t) (sym added) h
head_kept (change op f args by) old new added h = subst (λ n. 0 < n) (sym added.heads) h

-- ---- the loop
module _ (touches : List Touch) (i : ℕ) (t : Touch) (within : i < length touches) (is : t ≡ get_or touches i t) where
  abbrev front : List Change
  front = changes_of (take i touches)

  here : first_clash i front (changes_of (drop i touches)) ≡ cond (list_any (clashes (change_in t)) front) (Err (fail.Clash i)) (first_clash (i + 1) (front ++ change_in t ∷ []) (changes_of (drop (i + 1) touches)))
  here =
      at_drop_more (λ us. first_clash i front (changes_of us)) touches i t within
      ∙ ap (λ (u : Touch). first_clash i front (change_in u ∷ changes_of (drop (i + 1) touches))) (sym is)

  pub clashes_here : list_any (clashes (change_in t)) front ≡ true → first_clash i front (changes_of (drop i touches)) ≡ Err (fail.Clash i)
  clashes_here h = here ∙ ap (λ b. cond b (Err (fail.Clash i)) (first_clash (i + 1) (front ++ change_in t ∷ []) (changes_of (drop (i + 1) touches)))) h

  pub no_clash_here : list_any (clashes (change_in t)) front ≡ false → first_clash i front (changes_of (drop i touches)) ≡ first_clash (i + 1) (changes_of (take (i + 1) touches)) (changes_of (drop (i + 1) touches))
  no_clash_here h =
      here ∙ ap (λ b. cond b (Err (fail.Clash i)) (first_clash (i + 1) (front ++ change_in t ∷ []) (changes_of (drop (i + 1) touches)))) h
      ∙ ap (λ cs. first_clash (i + 1) cs (changes_of (drop (i + 1) touches))) (sym (changes_more touches i t within is))
