-- What refuted blocks say: no word of so many copies of the pattern is a valid plan.
use Rattle.std.proofs.Common.{◌≡◌, ℕ, zero, suc, ◌+◌, ◌<◌, ◌≤◌, List, [], ◌∷◌, length, map, take, refl, sym, ◌∙◌, ap, subst, inl, inr, arith}
use Rattle.std.proofs.lemmas.Bool.{cases_lt}
use Rattle.std.proofs.lemmas.List.{length-map}
use Rattle.std.proofs.lemmas.List.Elements.{recursion_from_All}
use Rattle.std.specs.List.{AllByRecursion}
use Rattle.pddl_task.specs.declared.instance.Instance.{Instance}
use Rattle.pddl_task.specs.declared.parts.TaskParts.{TaskParts}
use Rattle.plan_step.specs.Meaning.{IsValidPlan}
use Rattle.plan_form.specs.declared.plan.Part.{Part}
use Rattle.plan_form.specs.Printed.{written_out}
use Rattle.task_core.specs.Plan.{Reaches}
use Rattle.ground_walk.specs.Walk.{kept_instances}
use Rattle.ground_laws.specs.Result.{task_from, numbered, action_in}
use Rattle.ground_plans.specs.Plans.{instances_at, ReachesGoal}
use Rattle.pattern.specs.Pattern.{IsPattern}
use Rattle.formula.specs.declared.point.Point.{Point}
use Rattle.formula.specs.Meets.{IsSolution}
use Rattle.encode.proofs.EncodingLaws.{pattern-places}
use Rattle.farkas_law.specs.Lemma.{IsShown}
use Rattle.log_laws.proofs.Keeping.{no_exact_point}
use Rattle.log_laws.proofs.Cutting.{values_long, integral, meets}
use Rattle.theory_law.specs.Log.{IsSoundLog}
use Rattle.planner_text.specs.inside.Known.{Known}
use Rattle.planner_text.specs.declared.limits.Limits.{Limits}
use Rattle.planner_text.specs.Text.{Log, End, refuted, found, unknown, steps_spent, Block, layered, formula_for, EndHolds, IsPlanBy, IsBlock, refuted_by, AreRefuted, IsText}

-- ---- a plan in the last block

module _ (task : TaskParts) (limits : Limits) (places : List ℕ) (before : List Log) (last : Block) (plan : List Part)
    (is : IsText task limits (layered places before last)) (ends : last.end ≡ found plan) where
  plan_by : IsPlanBy task places (length before) plan
  plan_by = subst (λ (e : End). EndHolds task places (length before) last.log e) ends is.holds.last_is.ends

  pub plan_is_valid : IsValidPlan task (written_out plan)
  plan_is_valid = plan_by.valid

  pub plan_reaches : ReachesGoal task places (length before)
  plan_reaches = record {
    word = plan_by.word;
    is_word = plan_by.is_word;
    valid = subst (λ (steps : List Instance). IsValidPlan task steps) plan_by.spelled plan_by.valid;
  }

-- ---- refuted blocks

module _ (task : TaskParts) (limits : Limits) (places : List ℕ) (known : Known task places) where
  refuted_block : (n : ℕ) (log : Log) → IsBlock task limits places n (refuted_by log) → ReachesGoal task places n → ⊥
  refuted_block n log b r =
      let f = formula_for task places n in
      let x = known.point n (known.reached n r) in
      let p = x.0 in
      let is = b.ends.0 in
      no_exact_point IsShown known.means (take (length f.counts) p.values) f log is b.sound b.ends.1 (values_long f p is x.1) (integral f p is x.1) (take (length f.atoms) p.truth) (meets f p is x.1)

  refuted_from : (n : ℕ) (logs : List Log) → AreRefuted task limits places n logs → (i : ℕ) → n ≤ i → i < n + length logs → ReachesGoal task places i → ⊥
  refuted_from n [] h i low high r = absurd (omega (arith, low, high))
  refuted_from n (log ∷ logs) h i low high r = elim (cases_lt n i) as (λ _. ⊥) [
    | inl above ↦ refuted_from (suc n) logs h.1 i (omega (arith, above)) (omega (arith, high)) r
    | inr most ↦ let e : i ≡ n = omega (arith, most, low) in refuted_block n log h.0 (subst (λ (k : ℕ). ReachesGoal task places k) e r)
  ]

  module _ (before : List Log) (last : Block) (is : IsText task limits (layered places before last)) where
    pub none_before : (i : ℕ) → i < length before → ReachesGoal task places i → ⊥
    none_before i less r = refuted_from 0 before is.holds.refuted_before i (omega arith) (omega (arith, less)) r

    pub none_up_to : last.end ≡ refuted → (i : ℕ) → i ≤ limits.max_n → ReachesGoal task places i → ⊥
    none_up_to e i most r = elim (cases_lt i (length before)) as (λ _. ⊥) [
      | inl less ↦ none_before i less r
      | inr more ↦
          let all = is.holds.goes_on e in
          let at : i ≡ length before = omega (arith, most, more, all) in
          let ends : EndHolds task places (length before) last.log refuted = subst (λ (x : End). EndHolds task places (length before) last.log x) e is.holds.last_is.ends in
          refuted_block (length before) last.log (record { sound = is.holds.last_is.sound; few = is.holds.last_is.few; ends = ends }) (subst (λ (k : ℕ). ReachesGoal task places k) at r)
    ]

-- ---- the places of a pattern are numbers of actions, and of kept instances

pub places_of_actions : (task : TaskParts) (places : List ℕ) → IsPattern (task_from task) places → AllByRecursion (λ a. a < length (task_from task).actions) places
places_of_actions task places h = recursion_from_All (λ a. a < length (task_from task).actions) places (pattern-places (task_from task) places h)

pub actions_are_kept : (task : TaskParts) → length (task_from task).actions ≡ length (kept_instances task)
actions_are_kept task = length-map (kept_instances task) (action_in (numbered task))

pub places_are_kept : (task : TaskParts) (places : List ℕ) → IsPattern (task_from task) places → AllByRecursion (λ a. a < length (kept_instances task)) places
places_are_kept task places h = subst (λ (n : ℕ). AllByRecursion (λ a. a < n) places) (actions_are_kept task) (places_of_actions task places h)

-- ---- a block that is left open

pub left_open : (task : TaskParts) (limits : Limits) (places : List ℕ) (before : List Log) (log : Log) → length (kept_instances task) ≤ 1000000 → IsPattern (task_from task) places
    → AreRefuted task limits places 0 before → length before ≤ limits.max_n → IsSoundLog IsShown (formula_for task places (length before)) log → length log ≤ limits.steps
    → IsText task limits (layered places before (record { log = log; end = unknown steps_spent }))
left_open task limits places before log few pattern are within sound short = record {
  few = few;
  holds = record {
    pattern = pattern;
    refuted_before = are;
    last_is = record { sound = sound; few = short; ends = tt };
    within = within;
    goes_on = λ e. absurd (cc (e));
  };
}
