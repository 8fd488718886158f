-- Deciding whether an instance rolls: growths of 0, and differences that pass.
use Rattle.std.proofs.Common.{◌≡◌, ℕ, zero, suc, ◌<◌, Bool, true, false, List, [], ◌∷◌, length, get_or, Option, Some, Result, Ok, Err, sym, ap, subst, ◌∙◌, arith}
use Rattle.std.specs.Prelude.{ℤ, IfErr}
use Rattle.std.proofs.lemmas.Bool.{eqb-true}
use lib.IntN.{pos, negsuc}
use Rattle.rational.specs.Fraction.{Fraction, whole}
use Rattle.rational.proofs.FieldLaws.{zero_num, num_zero}
use Rattle.frac128.specs.Operations.{Answers, Passes}
use Rattle.frac128.specs.declared.operations.Op.TheVariants.{Sub}
use Rattle.frac128.specs.declared.operations.Wide.{Wide}
use Rattle.plan_step.specs.declared.touches.Touch.{Touch}
use Rattle.plan_step.specs.declared.touches.Touch.TheVariants as touch
use Rattle.pddl_task.specs.declared.effect.NumOp.{NumOp}
use Rattle.plan_step.specs.State.{PlanState}
use Rattle.plan_step.specs.Meaning.{is_zero_ℤ}
use Rattle.plan_repeat.specs.inside.Jumping.{IsUnfoundAt}

z-zero : (z : ℤ) → is_zero_ℤ z ≡ true → z ≡ pos 0
z-zero (pos n) h = ap pos (eqb-true n 0 h)
z-zero (negsuc n) h = cc

pub zero-is : (x : Fraction) → is_zero_ℤ x.num ≡ true → x ≡ whole (pos 0)
zero-is x h = zero_num x (z-zero x.num h)

pub not-zero : (x : Fraction) → is_zero_ℤ x.num ≡ false → x ≡ whole (pos 0) → ⊥
not-zero x h e = let k : is_zero_ℤ x.num ≡ true = ap (λ (z : ℤ). is_zero_ℤ z) (num_zero x e) in let never : true ≡ false = sym k ∙ h in cc

pub item-at : (qs : List Fraction) (i : ℕ) (q : Fraction) → i < length qs → q ≡ get_or qs i q → q ≡ get_or qs i (whole (pos 0))
item-at [] i q l is = absurd (omega arith)
item-at (p ∷ ps) zero q l is = is
item-at (p ∷ ps) (suc i) q l is = item-at ps i q (omega arith) is

-- a difference that passes
pub unfound-by : (o p : Option Fraction) (x y : Fraction) (r : Result Fraction Wide) → o ≡ Some x → p ≡ Some y → Answers Sub y x r
    → IfErr r (λ w. (a : Fraction) × (b : Fraction) × (o ≡ Some a) × (p ≡ Some b) × Passes Sub b a)
unfound-by o p x y (Ok q) is also h = tt
unfound-by o p x y (Err w) is also h = (x, y, is, also, h.0)

pub touch-unfound : (now : PlanState) (t : Touch) (op : NumOp) (f : ℕ) (args slice : List ℕ) (by : Fraction) (kept v : Option Fraction) (r : Result Fraction Wide) → t ≡ touch.Function op f args by kept → slice ≡ args → v ≡ now.value f slice
    → IfErr r (λ w. (a : Fraction) × (b : Fraction) × (kept ≡ Some a) × (v ≡ Some b) × Passes Sub b a) → IfErr r (λ w. IsUnfoundAt now t)
touch-unfound now t op f args slice by kept v (Ok q) is same value h = tt
touch-unfound now t op f args slice by kept v (Err w) is same value h =
    subst (IsUnfoundAt now) (sym is) (h.0, h.1, h.2, ap (λ (xs : List ℕ). now.value f xs) (sym same) ∙ sym value ∙ h.3, h.4)
