-- Touches gathered one by one.
use Rattle.std.proofs.Common.{◌≡◌, ℕ, ◌+◌, ◌<◌, ◌≤◌, List, [], ◌∷◌, ◌++◌, map, length, get_or, take, drop, Result, Ok, Err, refl, sym, ap, ap₂, subst, ◌∙◌, arith, ⊎_elim}
use Rattle.std.proofs.lemmas.List.{append_assoc, append-nil, at_drop_more, at_drop_all, map_push, map_more, get_or_push, get_or_append_left, length_push}
use Rattle.std.proofs.lemmas.Bool.{cases_lt}
use Rattle.pddl_task.specs.declared.effect.Effect.{Effect}
use Rattle.plan_step.specs.declared.failure.StepFail.{StepFail}
use Rattle.plan_step.specs.declared.failure.StepFail.TheVariants as fail
use Rattle.plan_step.specs.declared.touches.Touch.{Touch}
use Rattle.plan_step.specs.State.{PlanState}
use Rattle.plan_step.specs.Met.{Met, found, lacks, passes}
use Rattle.plan_step.specs.Effects.{change_met, all_changes, more_changes}
use Rattle.plan_step.specs.Meaning.{Change}
use Rattle.plan_step.specs.Touches.{change_in, changes_of, target_of, target_in, EachTouch, IsKept, HasTarget}
use Rattle.plan_step.specs.inside.Touching.{leaf_answer, IsUsable, IsTouch, AreTouches}

-- changes in front of what comes of the rest
abbrev pub with_front : List Change → Result (List Change) StepFail → Result (List Change) StepFail
with_front front (Ok more) = Ok (front ++ more)
with_front front (Err e) = Err e

-- ---- a fact of each touch
module _ (P : Touch → Type 0) where
  pub each_push : (touches : List Touch) (t : Touch) → EachTouch P touches → P t → EachTouch P (touches ++ t ∷ [])
  each_push touches t each here i s within is =
      ⊎_elim
      (λ below. each i s below (is ∙ get_or_append_left touches (t ∷ []) s i below))
      (λ past. let e : length touches ≡ i = omega (arith, length_push touches t) in subst P (sym (is ∙ get_or_push touches t s i e)) here)
      (cases_lt i (length touches))

-- ---- the loop
module _ (state : PlanState) (args : List ℕ) (effs : List Effect) where
  abbrev ms : List Effect → List (Met Change)
  ms es = map (change_met state args) es

  abbrev pub IsGathered : ℕ → List Touch → Type 0
  IsGathered i touches = all_changes 0 (ms effs) ≡ with_front (changes_of touches) (all_changes i (ms (drop i effs)))

  module _ (i : ℕ) (touches : List Touch) (h : IsGathered i touches) where
    pub gathered_all : length effs ≤ i → all_changes 0 (ms effs) ≡ Ok (changes_of touches)
    gathered_all past = h ∙ ap (with_front (changes_of touches)) (at_drop_all (λ es. all_changes i (ms es)) effs i past) ∙ ap Ok (append-nil (changes_of touches))

    module _ (within : i < length effs) (effect : Effect) (is : effect ≡ get_or effs i effect) where
      abbrev after : Met Change → Result (List Change) StepFail
      after m = with_front (changes_of touches) (all_changes i (m ∷ ms (drop (i + 1) effs)))

      here : all_changes 0 (ms effs) ≡ after (change_met state args effect)
      here = h ∙ ap (with_front (changes_of touches)) (at_drop_more (λ es. all_changes i (ms es)) effs i effect within) ∙ ap (λ e. after (change_met state args e)) (sym is)

      rest : Result (List Change) StepFail
      rest = all_changes (i + 1) (ms (drop (i + 1) effs))

      failed : (m : Met Change) (e : StepFail) → leaf_answer i m ≡ Err e → after m ≡ Err e
      failed (found c) e is = cc
      failed lacks e is = let same : fail.NoValue i ≡ e = cc in ap (λ (x : StepFail). Err x) same
      failed (passes w) e is = let same : fail.Wide w ≡ e = cc in ap (λ (x : StepFail). Err x) same

      pub gathering_fails : (e : StepFail) → leaf_answer i (change_met state args effect) ≡ Err e → all_changes 0 (ms effs) ≡ Err e
      gathering_fails e is = here ∙ failed (change_met state args effect) e is

      one_more : (c : Change) (more : Result (List Change) StepFail) → with_front (changes_of touches) (more_changes c more) ≡ with_front (changes_of touches ++ c ∷ []) more
      one_more c (Ok more) = ap Ok (sym (append_assoc (changes_of touches) (c ∷ []) more))
      one_more c (Err e) = refl

      goes_on : (m : Met Change) (t : Touch) → leaf_answer i m ≡ Ok (change_in t) → after m ≡ with_front (changes_of (touches ++ t ∷ [])) (all_changes (i + 1) (ms (drop (i + 1) effs)))
      unfolding rest
      goes_on (found c) t is =
          let same : c ≡ change_in t = cc in
          one_more c rest ∙ ap (λ d. with_front (changes_of touches ++ d ∷ []) rest) same ∙ ap (λ cs. with_front cs rest) (sym (map_push change_in touches t))
      goes_on lacks t is = cc
      goes_on (passes w) t is = cc

      pub gathered_more : (t : Touch) → leaf_answer i (change_met state args effect) ≡ Ok (change_in t) → IsGathered (i + 1) (touches ++ t ∷ [])
      gathered_more t is = here ∙ goes_on (change_met state args effect) t is

  pub touches_more : (i : ℕ) (touches : List Touch) (effect : Effect) (t : Touch) → i < length effs → effect ≡ get_or effs i effect
      → AreTouches state args (take i effs) touches → IsTouch state args effect t → AreTouches state args (take (i + 1) effs) (touches ++ t ∷ [])
  touches_more i touches effect t within is h one = record {
    targets = map_push target_of touches t ∙ ap₂ (λ xs x. xs ++ x ∷ []) h.targets (one.target ∙ ap (target_in args) is) ∙ sym (map_more (target_in args) effs i effect within);
    kept = each_push (IsKept state) touches t h.kept one.kept;
    usable = each_push IsUsable touches t h.usable one.usable;
    has_targets = each_push (HasTarget state) touches t h.has_targets one.has_target;
  }
