-- Runs after one another, and plans written out.
use Rattle.std.proofs.Common.{◌≡◌, List, [], ◌∷◌, ◌++◌, replicate, refl, sym, ap, subst, ◌∙◌, append_assoc}
use Rattle.std.proofs.lemmas.List.{append-nil}
use Rattle.pddl_task.specs.declared.instance.Instance.{Instance}
use Rattle.pddl_task.specs.declared.parts.TaskParts.{TaskParts}
use Rattle.plan_step.specs.State.{PlanState}
use Rattle.plan_step.specs.Meaning.{Run, ended, stepped}
use Rattle.plan_step.proofs.RunLaws.{split, stays}
use Rattle.plan_form.specs.declared.plan.Part.{Part}
use Rattle.plan_form.specs.Printed.{written_out}

module _ (task : TaskParts) where
  pub run-append : (xs ys : List Instance) (s t u : PlanState) → Run task s xs t → Run task t ys u → Run task s (xs ++ ys) u
  run-append [] ys s t u r q = let P : PlanState → Type 0 = λ v. Run task v ys u in subst P (sym (stays task s t r)) q
  run-append (by ∷ xs) ys s t u r q = let a = split task s t by xs r in stepped a.1 (run-append xs ys a.0 t u a.2 q)

  -- a run of two lists, at the end of the first
  pub record Between (xs ys : List Instance) (s u : PlanState) : Type 0 where
    pub middle : PlanState
    pub first : Run task s xs middle
    pub second : Run task middle ys u

  pub run-between : (xs ys : List Instance) (s u : PlanState) → Run task s (xs ++ ys) u → Between xs ys s u
  run-between [] ys s u r = record { middle = s; first = ended (record { truth = λ p args. refl; value = λ f args. refl }); second = r }
  run-between (by ∷ xs) ys s u r =
      let a = split task s u by (xs ++ ys) r in
      let h = run-between xs ys a.0 u a.2 in
      record { middle = h.middle; first = stepped a.1 h.first; second = h.second }

pub written-none : written_out [] ≡ []
unfolding written_out
written-none = refl

pub written-more : (part : Part) (more : List Part) → written_out (part ∷ more) ≡ replicate part.count part.by ++ written_out more
unfolding written_out
written-more part more = refl

pub written-one : (part : Part) → written_out (part ∷ []) ≡ replicate part.count part.by
written-one part = written-more part [] ∙ ap (λ (is : List Instance). replicate part.count part.by ++ is) written-none ∙ append-nil (replicate part.count part.by)

pub written-append : (xs ys : List Part) → written_out (xs ++ ys) ≡ written_out xs ++ written_out ys
written-append [] ys = sym (ap (λ (is : List Instance). is ++ written_out ys) written-none)
written-append (p ∷ xs) ys =
    written-more p (xs ++ ys) ∙ ap (λ (is : List Instance). replicate p.count p.by ++ is) (written-append xs ys)
    ∙ sym (append_assoc (replicate p.count p.by) (written_out xs) (written_out ys))
    ∙ ap (λ (is : List Instance). is ++ written_out ys) (sym (written-more p xs))
