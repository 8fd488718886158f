-- What is noted beside an expression leaves its outcome as it is; and a number stays when more is numbered.
use Rattle.std.proofs.Common.{◌≡◌, ℕ, zero, suc, Bool, true, false, cond, ◌||◌, List, [], ◌∷◌, ◌++◌, map, refl, ap, ap₂, ◌∙◌}
use lib.IntN.{pos}
use Rattle.frac128.specs.declared.operations.Wide.{Wide}
use Rattle.rational.specs.Fraction.{Fraction, whole}
use Rattle.pddl_task.specs.declared.expression.Expr.{Expr}
use Rattle.pddl_task.specs.declared.expression.Expr.TheOpen.{Expr-F}
use Rattle.pddl_task.specs.declared.expression.Expr.TheFolds.{fold-Expr}
use Rattle.ground_action.proofs.FoldLaws.{fold_related, AreSteps}
use Rattle.ground_numbers.specs.Numbers.{is_listed, number_in}
use Rattle.ground_action.specs.Setting.{Setting}
use Rattle.ground_action.specs.Parts.{Part, negated, multiplied, divided, Outcome, ends, bent, part, with_part, with_parts, folded_from, folded, plus_part, minus_part, part_step, part_of}
use Rattle.ground_action.specs.Work.{Work, both_made, with_made, made_from, made_folded, negative_made, work_step, work_of, plus_ops, minus_ops, times_ops, over_ops}

abbrev pub IsWorkOf : Work → Outcome → Type 0
IsWorkOf n o = n.outcome ≡ o

module _ (f : Part → Part → Outcome) (ops : Part → Part → List Wide) where
  both_is : (a : Outcome) (xs : List Wide) (b : Outcome) (ys : List Wide) → (both_made f ops a xs b ys).outcome ≡ with_parts f a b
  both_is ends xs b ys = refl
  both_is bent xs b ys = refl
  both_is (part p) xs ends ys = refl
  both_is (part p) xs bent ys = refl
  both_is (part p) xs (part q) ys = refl

  module _ {E : Type 0} (work_at : E → Work) (outcome : E → Outcome) where
    from_is : (n : Work) (a : Outcome) (parts : List ((e : E) × IsWorkOf (work_at e) (outcome e))) → IsWorkOf n a → IsWorkOf (made_from f ops n (map work_at (map (λ p. p.0) parts))) (folded_from f a (map outcome (map (λ p. p.0) parts)))
    from_is n a [] h = h
    from_is n a (p ∷ parts) h = from_is (with_made f ops n (work_at p.0)) (with_parts f a (outcome p.0)) parts (both_is n.outcome n.ops (work_at p.0).outcome (work_at p.0).ops ∙ ap₂ (with_parts f) h p.1)

    folded_is : (unit : Fraction) (parts : List ((e : E) × IsWorkOf (work_at e) (outcome e))) → IsWorkOf (made_folded f ops unit (map work_at (map (λ p. p.0) parts))) (folded f unit (map outcome (map (λ p. p.0) parts)))
    folded_is unit [] = refl
    folded_is unit (p ∷ parts) = from_is (work_at p.0) (outcome p.0) parts p.1

negative_is : (a : Outcome) (xs : List Wide) → (negative_made a xs).outcome ≡ with_part (λ p. part (negated p)) a
negative_is ends xs = refl
negative_is bent xs = refl
negative_is (part p) xs = refl

module _ (set : Setting) (args : List ℕ) where
  abbrev work_at : Expr → Work
  work_at = fold-Expr Work (work_step set args)

  steps : AreSteps (work_step set args) (part_step set args) IsWorkOf
  steps (Expr-F.Num n) = refl
  steps (Expr-F.Call func terms) = refl
  steps (Expr-F.Add parts) = folded_is plus_part plus_ops (fold-Expr Work (work_step set args)) (fold-Expr Outcome (part_step set args)) (whole (pos 0)) parts
  steps (Expr-F.Mul parts) = folded_is multiplied times_ops (fold-Expr Work (work_step set args)) (fold-Expr Outcome (part_step set args)) (whole (pos 1)) parts
  steps (Expr-F.Neg a) = negative_is (work_at a.0).outcome (work_at a.0).ops ∙ ap (with_part (λ p. part (negated p))) a.1
  steps (Expr-F.Sub a b) = both_is minus_part minus_ops (work_at a.0).outcome (work_at a.0).ops (work_at b.0).outcome (work_at b.0).ops ∙ ap₂ (with_parts minus_part) a.1 b.1
  steps (Expr-F.Div a b) = both_is divided over_ops (work_at a.0).outcome (work_at a.0).ops (work_at b.0).outcome (work_at b.0).ops ∙ ap₂ (with_parts divided) a.1 b.1

  pub work_is : (e : Expr) → (work_of set args e).outcome ≡ part_of set args e
  unfolding work_of part_of
  work_is = fold_related (work_step set args) (part_step set args) IsWorkOf steps

-- what is listed keeps its number when more follows
pub same_number : {A : Type 0} (alike : A → A → Bool) (xs ys : List A) (x : A) → is_listed alike xs x ≡ true → number_in alike (xs ++ ys) x ≡ number_in alike xs x
same_number alike [] ys x h = absurd (cc)
same_number alike (y ∷ xs) ys x h = by_test (alike y x) h (λ h. same_number alike xs ys x h)
  where
    by_test : (b : Bool) → (b || is_listed alike xs x) ≡ true → (is_listed alike xs x ≡ true → number_in alike (xs ++ ys) x ≡ number_in alike xs x) → cond b zero (suc (number_in alike (xs ++ ys) x)) ≡ cond b zero (suc (number_in alike xs x))
    by_test true h ih = refl
    by_test false h ih = ap suc (ih h)
