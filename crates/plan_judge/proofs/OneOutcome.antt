-- A plan comes to one outcome, operations that pass aside.
use Rattle.std.proofs.Common.{◌≡◌, ℕ, ◌+◌, Bool, true, false, List, [], ◌∷◌, ◌++◌, length, replicate, Result, Ok, Err, refl, sym, ap, ap₂, subst, ◌∙◌, arith}
use Rattle.frac128.specs.declared.operations.Wide.{Wide}
use Rattle.pddl_task.specs.declared.instance.Instance.{Instance}
use Rattle.pddl_task.specs.declared.parts.TaskParts.{TaskParts}
use Rattle.plan_step.specs.declared.failure.StepFail.{StepFail}
use Rattle.plan_step.specs.State.{PlanState, initial}
use Rattle.plan_step.specs.Conditions.{goal_met}
use Rattle.plan_step.specs.Meaning.{Run}
use Rattle.plan_step.specs.Laws.{IsRefutal}
use Rattle.plan_step.proofs.RunLaws.{one_run}
use Rattle.plan_repeat.specs.declared.failure.RepeatFail.{RepeatFail}
use Rattle.plan_repeat.specs.Repeat.{Breaks}
use Rattle.plan_repeat.proofs.BreakLaws.{broken-none, one-break}
use Rattle.plan_form.specs.declared.plan.Part.{Part}
use Rattle.plan_form.specs.Printed.{written_out}
use Rattle.plan_judge.specs.declared.outcome.Outcome.{Outcome}
use Rattle.plan_judge.specs.declared.outcome.Outcome.TheVariants as outcome
use Rattle.plan_judge.specs.declared.outcome.PartFail.{PartFail}
use Rattle.plan_judge.specs.Course.{IsFirstFailure, IsTested, ComesTo}
use Rattle.plan_judge.specs.Laws.{IsDecided}
use Rattle.plan_judge.proofs.Runs.{run-between, written-append, written-more}
use Rattle.plan_judge.proofs.Meanings.{refuted-is}

-- ---- two ways to split one list
data Splits (xs ys : List Part) (p q : Part) : Type 0 where
  same : xs ≡ ys → p ≡ q → Splits xs ys p q
  shorter : (more : List Part) → ys ≡ xs ++ p ∷ more → Splits xs ys p q
  longer : (more : List Part) → xs ≡ ys ++ q ∷ more → Splits xs ys p q

more-splits : (x y : Part) (xs ys : List Part) (p q : Part) → x ≡ y → Splits xs ys p q → Splits (x ∷ xs) (y ∷ ys) p q
more-splits x y xs ys p q e (same is one) = same (ap₂ (λ (a : Part) (rest : List Part). a ∷ rest) e is) one
more-splits x y xs ys p q e (shorter more is) = shorter more (ap₂ (λ (a : Part) (rest : List Part). a ∷ rest) (sym e) is)
more-splits x y xs ys p q e (longer more is) = longer more (ap₂ (λ (a : Part) (rest : List Part). a ∷ rest) e is)

heads : (x y : Part) (xs ys : List Part) → x ∷ xs ≡ y ∷ ys → (x ≡ y) × (xs ≡ ys)
heads x y xs ys is = (cc, cc)

splits : (xs ys : List Part) (p q : Part) (us ws : List Part) → xs ++ p ∷ us ≡ ys ++ q ∷ ws → Splits xs ys p q
splits [] [] p q us ws is = same refl (heads p q us ws is).0
splits [] (y ∷ ys) p q us ws is = let h = heads p y us (ys ++ q ∷ ws) is in shorter ys (ap (λ (a : Part). a ∷ ys) (sym h.0))
splits (x ∷ xs) [] p q us ws is = let h = heads x q (xs ++ p ∷ us) ws is in longer xs (ap (λ (a : Part). a ∷ xs) h.0)
splits (x ∷ xs) (y ∷ ys) p q us ws is = let h = heads x y (xs ++ p ∷ us) (ys ++ q ∷ ws) is in more-splits x y xs ys p q h.0 (splits xs ys p q us ws h.1)

-- ---- failures
fail-is : (f g : RepeatFail) → f.at ≡ g.at → f.fail ≡ g.fail → f ≡ g
fail-is f g at is = ap₂ (λ (n : ℕ) (e : StepFail). make n e) at is
  where
    make : ℕ → StepFail → RepeatFail
    make n e = record { at = n; fail = e }

module _ (task : TaskParts) (plan : List Part) where
  -- a part that is refuted has no run behind it
  never : (e : PartFail) (h : IsFirstFailure task plan e) → IsRefutal e.fail.fail → (front more : List Part) (s : PlanState) → front ≡ h.front ++ h.part ∷ more → Run task (initial task) (written_out front) s → ⊥
  never e h refuted front more s is r =
      let written : written_out front ≡ written_out h.front ++ (replicate h.part.count h.part.by ++ written_out more) =
      ap written_out is ∙ written-append h.front (h.part ∷ more) ∙ ap (λ (xs : List Instance). written_out h.front ++ xs) (written-more h.part more) in
      let P : List Instance → Type 0 = λ xs. Run task (initial task) xs s in
      let b = run-between task (written_out h.front) (replicate h.part.count h.part.by ++ written_out more) (initial task) s (subst P written r) in
      let Q : PlanState → Type 0 = λ t. Run task t (replicate h.part.count h.part.by ++ written_out more) s in
      broken-none task h.part.by h.start s h.part.count e.fail.at e.fail.fail (written_out more) h.breaks refuted
      (subst Q (one_run task (written_out h.front) (initial task) b.middle h.start b.first h.run) b.second)

  one-failure : (e f : PartFail) (h : IsFirstFailure task plan e) (k : IsFirstFailure task plan f) → IsRefutal e.fail.fail → IsRefutal f.fail.fail → Splits h.front k.front h.part k.part → (e.part ≡ f.part) × (e.fail.at ≡ f.fail.at) × (e.fail.fail ≡ f.fail.fail)
  one-failure e f h k refuted also (shorter more is) = absurd (never e h refuted k.front more k.start is k.run)
  one-failure e f h k refuted also (longer more is) = absurd (never f k also h.front more h.start is h.run)
  one-failure e f h k refuted also (same is one) =
      let P : List Part → Type 0 = λ ps. Run task (initial task) (written_out ps) h.start in
      let start : h.start ≡ k.start = one_run task (written_out k.front) (initial task) h.start k.start (subst P is h.run) k.run in
      let moved : Breaks task k.start k.part.by k.part.count e.fail.at e.fail.fail =
      subst (λ (p : Part). Breaks task k.start p.by p.count e.fail.at e.fail.fail) one
      (subst (λ (s : PlanState). Breaks task s h.part.by h.part.count e.fail.at e.fail.fail) start h.breaks) in
      let b = one-break task k.part.by k.start k.part.count e.fail.at f.fail.at e.fail.fail f.fail.fail moved k.breaks refuted also in
      let n : e.part ≡ length h.front + 1 = h.number in
      let m : f.part ≡ length k.front + 1 = k.number in
      (n ∙ ap (λ (ps : List Part). length ps + 1) is ∙ sym m, b.0, b.1)

  part-is : (e f : PartFail) → (e.part ≡ f.part) × (e.fail.at ≡ f.fail.at) × (e.fail.fail ≡ f.fail.fail) → e ≡ f
  part-is e f h = ap₂ make h.0 (fail-is e.fail f.fail h.1 h.2)
    where
      make : ℕ → RepeatFail → PartFail
      make n r = record { part = n; fail = r }

  tested-once : (a b : Bool) → IsTested task plan (Ok a) → IsTested task plan (Ok b) → a ≡ b
  tested-once a b h k =
      let end : h.reached ≡ k.reached = one_run task (written_out plan) (initial task) h.reached k.reached h.run k.run in
      ok_is a b (sym h.tested ∙ ap (λ (s : PlanState). goal_met s task.goal) end ∙ k.tested)
    where
      ok_is : (a b : Bool) → ◌≡◌ {A = Result Bool Wide} (Ok a) (Ok b) → a ≡ b
      ok_is a b is = cc

  pub one-outcome : (o q : Outcome) → ComesTo task plan o → ComesTo task plan q → IsDecided o → IsDecided q → o ≡ q
  one-outcome outcome.Valid outcome.Valid h k d g = refl
  one-outcome outcome.Valid outcome.GoalFails h k d g = let never : true ≡ false = tested-once true false h k in cc
  one-outcome outcome.Valid (outcome.PartFails f) h k d g = absurd (refuted-is task plan f h.reached k g h.run)
  one-outcome outcome.Valid (outcome.GoalWide w) h k d g = absurd g
  one-outcome outcome.GoalFails outcome.Valid h k d g = let never : true ≡ false = tested-once true false k h in cc
  one-outcome outcome.GoalFails outcome.GoalFails h k d g = refl
  one-outcome outcome.GoalFails (outcome.PartFails f) h k d g = absurd (refuted-is task plan f h.reached k g h.run)
  one-outcome outcome.GoalFails (outcome.GoalWide w) h k d g = absurd g
  one-outcome (outcome.PartFails e) outcome.Valid h k d g = absurd (refuted-is task plan e k.reached h d k.run)
  one-outcome (outcome.PartFails e) outcome.GoalFails h k d g = absurd (refuted-is task plan e k.reached h d k.run)
  one-outcome (outcome.PartFails e) (outcome.PartFails f) h k d g =
      ap (λ (x : PartFail). outcome.PartFails x) (part-is e f (one-failure e f h k d g (splits h.front k.front h.part k.part h.after k.after (sym h.split ∙ k.split))))
  one-outcome (outcome.PartFails e) (outcome.GoalWide w) h k d g = absurd g
  one-outcome (outcome.GoalWide w) q h k d g = absurd d
