-- What the operations of fractions answer, as what an evaluation meets.
use Rattle.std.proofs.Common.{◌≡◌, true, false, cond, List, get_or, Result, Ok, Err, sym, ap, ◌∙◌, arith}
use Rattle.std.proofs.lemmas.Bool.Decides.{nat_tests}
use Rattle.std.proofs.lemmas.List.Folds.{list_any_none, list_any-from_Any}
use Rattle.std.specs.List.{All, Any, list_any}
use lib.IntN.{ℤ}
use Rattle.rational.specs.Fraction.{Fraction}
use Rattle.frac128.specs.Bounds.{IsWithin, IsPast}
use Rattle.frac128.specs.Operations.{Answers, named_numbers, value_of}
use Rattle.frac128.specs.declared.operations.Op.{Op}
use Rattle.frac128.specs.declared.operations.Wide.{Wide}
use Rattle.plan_step.specs.Met.{found, lacks, passes, is_past, passes_128, wide, operated, met_of_value}
use Rattle.plan_step.specs.Evaluation.{divided}
use Rattle.plan_step.specs.Meaning.{is_zero_ℤ}
use Rattle.frac128.specs.declared.operations.Op.TheVariants as op

within_not_past : (z : ℤ) → IsWithin z → is_past z ≡ false
within_not_past z h = grind (arith, nat_tests)

past : (z : ℤ) → IsPast z → is_past z ≡ true
past z h = grind (arith, nat_tests)

none_past : (zs : List ℤ) → All IsWithin zs → list_any is_past zs ≡ false
none_past zs h = list_any_none is_past zs (λ k d l. within_not_past (get_or zs k d) (h k d l))

some_past : (zs : List ℤ) → Any IsPast zs → list_any is_past zs ≡ true
some_past zs h = list_any-from_Any is_past zs (h.0, h.1, h.2, h.3, past h.1 h.4)

-- an answer is what the operation meets
pub answered : (op : Op) (x y : Fraction) (r : Result Fraction Wide) → Answers op x y r → met_of_value r ≡ operated op x y
unfolding passes_128
answered op x y (Ok z) h = ap found h.1 ∙ ap (λ b. cond b (passes (wide op x y)) (found (value_of op x y))) (sym (none_past (named_numbers op x y) h.0))
answered op x y (Err w) h = ap (λ (v : Wide). passes v) h.1 ∙ ap (λ b. cond b (passes (wide op x y)) (found (value_of op x y))) (sym (some_past (named_numbers op x y) h.0))

module _ (x y : Fraction) where
  not_zero : is_zero_ℤ y.num ≡ false → divided x y ≡ operated op.Div x y
  not_zero h = ap (λ b. cond b lacks (operated op.Div x y)) h

  pub by_division : (z : Fraction) → is_zero_ℤ y.num ≡ false → Answers op.Div x y (Ok z) → found z ≡ divided x y
  by_division z h answer = answered op.Div x y (Ok z) answer ∙ sym (not_zero h)

  pub by_wide_division : (w : Wide) → is_zero_ℤ y.num ≡ false → Answers op.Div x y (Err w) → passes w ≡ divided x y
  by_wide_division w h answer = answered op.Div x y (Err w) answer ∙ sym (not_zero h)
