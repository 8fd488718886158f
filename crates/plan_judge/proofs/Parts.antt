-- The parts of a plan, one by one: those in front have a run.
use Rattle.std.proofs.Common.{◌≡◌, ℕ, suc, ◌+◌, ◌<◌, ◌≤◌, Bool, List, [], ◌∷◌, ◌++◌, length, drop, get_or, replicate, Result, refl, sym, ap, subst, ◌∙◌, append_assoc, drop-cons, add-one, arith}
use Rattle.std.proofs.lemmas.List.{drop_all, append-nil, length_push}
use Rattle.frac128.specs.declared.operations.Wide.{Wide}
use Rattle.pddl_task.specs.declared.instance.Instance.{Instance}
use Rattle.pddl_task.specs.declared.parts.TaskParts.{TaskParts}
use Rattle.plan_step.specs.declared.failure.StepFail.TheVariants as fail
use Rattle.plan_step.specs.State.{PlanState, initial}
use Rattle.plan_step.specs.Conditions.{goal_met}
use Rattle.plan_step.specs.Meaning.{Run, ended}
use Rattle.plan_repeat.specs.Repeat.{Breaks}
use Rattle.plan_form.specs.declared.plan.Part.{Part}
use Rattle.plan_form.specs.Printed.{written_out}
use Rattle.plan_judge.specs.declared.outcome.PartFail.{PartFail}
use Rattle.plan_judge.specs.Course.{IsFirstFailure, IsTested}
use Rattle.plan_judge.proofs.Runs.{run-append, written-append, written-one, written-none}

-- the part at a place, and those after it
part_at : (plan items : List Part) (i : ℕ) (part : Part) → items ≡ plan → i < length items → part ≡ get_or items i part → drop i plan ≡ part ∷ drop (i + 1) plan
part_at plan items i part same below is =
    ap (drop i) (sym same) ∙ drop-cons items i part below ∙ ap (λ (p : Part). p ∷ drop (suc i) items) (sym is) ∙ ap (λ (ps : List Part). part ∷ drop (suc i) ps) same ∙ ap (λ (n : ℕ). part ∷ drop n plan) (sym (add-one i))

module _ (task : TaskParts) (plan : List Part) where
  -- so many parts are made
  pub record AreMade (i : ℕ) (s : PlanState) : Type 0 where
    pub front : List Part
    pub split : plan ≡ front ++ drop i plan
    pub count : length front ≡ i
    pub run : Run task (initial task) (written_out front) s

  pub none-made : (s : PlanState) → s ≡ initial task → AreMade 0 s
  none-made s is = record {
    front = [];
    split = refl;
    count = refl;
    run =
        let P : List Instance → Type 0 = λ is. Run task (initial task) is s in
        let Q : PlanState → Type 0 = λ t. Run task (initial task) [] t in
        subst P (sym written-none) (subst Q (sym is) (ended (record { truth = λ p args. refl; value = λ f args. refl })));
  }

  module _ (items : List Part) (i : ℕ) (s : PlanState) (same : items ≡ plan) (h : AreMade i s) where
    -- one more
    pub one-made : (part : Part) (new : PlanState) → i < length items → part ≡ get_or items i part → Run task s (replicate part.count part.by) new → AreMade (i + 1) new
    one-made part new below is run = record {
      front = h.front ++ part ∷ [];
      split = h.split ∙ ap (λ (ps : List Part). h.front ++ ps) (part_at plan items i part same below is) ∙ sym (append_assoc h.front (part ∷ []) (drop (i + 1) plan));
      count = let n : length h.front ≡ i = h.count in length_push h.front part ∙ ap (λ (k : ℕ). k + 1) n;
      run =
          let P : List Instance → Type 0 = λ is. Run task (initial task) is new in
          subst P (sym (written-append h.front (part ∷ []) ∙ ap (λ (is : List Instance). written_out h.front ++ is) (written-one part)))
          (run-append task (written_out h.front) (replicate part.count part.by) (initial task) s new h.run run);
    }

    -- the next one breaks off
    pub breaks-here : (part : Part) (e : PartFail) → i < length items → part ≡ get_or items i part → e.part ≡ i + 1 → Breaks task s part.by part.count e.fail.at e.fail.fail → (e.fail.fail ≡ fail.Memory → ⊥) → IsFirstFailure task plan e
    breaks-here part e below is number breaks told = record {
      front = h.front;
      part = part;
      after = drop (i + 1) plan;
      split = h.split ∙ ap (λ (ps : List Part). h.front ++ ps) (part_at plan items i part same below is);
      number = let n : length h.front ≡ i = h.count in omega arith;
      start = s;
      run = h.run;
      breaks = breaks;
      told = told;
    }

    -- no part is left
    pub all-tested : (answer : Result Bool Wide) → length items ≤ i → answer ≡ goal_met s task.goal → IsTested task plan answer
    all-tested answer past is = record {
      reached = s;
      run =
          let P : List Part → Type 0 = λ ps. Run task (initial task) (written_out ps) s in
          subst P (sym (h.split ∙ ap (λ (ps : List Part). h.front ++ ps) (ap (drop i) (sym same) ∙ drop_all i items past) ∙ append-nil h.front)) h.run;
      tested = sym is;
    }
