-- What is met in order, as an answer of a call on linear expressions: the value where all operations fit, and else the first
-- that passes.
use Rattle.std.proofs.Common.{◌≡◌, ℕ, ◌⊎◌, inl, inr, Bool, true, false, ◌||◌, List, [], ◌∷◌, Option, Some, None, Result, Ok, Err, refl, sym, ap, subst, ◌∙◌, arith, zero, suc}
use Rattle.std.proofs.lemmas.Bool.Decides.{nat_tests}
use Rattle.std.proofs.lemmas.List.Folds.{Any-from_list_any}
use Rattle.std.specs.List.{All, list_any}
use lib.IntN.{ℤ}
use Rattle.frac128.specs.Bounds.{IsWithin, IsPast}
use Rattle.frac128.specs.Operations.{Fits, Passes, named_numbers}
use Rattle.frac128.specs.declared.operations.Wide.{Wide}
use Rattle.lin.specs.declared.failure.LinFail.{LinFail}
use Rattle.lin.specs.declared.failure.LinFail.TheVariants as fail
use Rattle.lin.specs.Operations.{AllFit, IsFirstPassing, AnswersInMemory}
use Rattle.pddl_task.specs.declared.expression.Expr.{Expr}
use Rattle.plan_step.specs.Met.{Met, passes, is_past, passes_128, and_then, value_or_none}
use Rattle.ground_action.specs.Setting.{Setting}
use Rattle.ground_action.specs.Parts.{Outcome, ends, bent, part}
use Rattle.ground_action.specs.Work.{work_of}
use Rattle.ground_parts.specs.declared.part.Part.{Part}
use Rattle.ground_parts.specs.Forms.{form_of, part_made}
use Rattle.ground_parts.specs.inside.Giving.{made_by, Gives}
use Rattle.ground_parts.specs.inside.Parts.{form_in, part_met}
use Rattle.ground_parts.proofs.Making.{made_fits, made_first}

past_bits : (z : ℤ) → is_past z ≡ true → IsPast z
past_bits z h = grind (arith, nat_tests)

not_past_within : (z : ℤ) → is_past z ≡ false → IsWithin z
not_past_within z h = grind (arith, nat_tests)

true_passes : (w : Wide) → passes_128 w.op w.x w.y ≡ true → Passes w.op w.x w.y
unfolding passes_128
true_passes w h = let some = Any-from_list_any is_past (named_numbers w.op w.x w.y) h in (some.0, some.1, some.2, some.3, past_bits some.1 some.4)

all_within : (zs : List ℤ) → list_any is_past zs ≡ false → All IsWithin zs
all_within [] h k d l = absurd (omega arith)
all_within (z ∷ zs) h zero d l = not_past_within z (first (is_past z) (list_any is_past zs) h)
  where
    first : (a b : Bool) → (a || b) ≡ false → a ≡ false
    first true b h = absurd (cc)
    first false b h = refl
all_within (z ∷ zs) h (suc k) d l = all_within zs (second (is_past z) (list_any is_past zs) h) k d (omega arith)
  where
    second : (a b : Bool) → (a || b) ≡ false → b ≡ false
    second true b h = absurd (cc)
    second false b h = h

false_fits : (w : Wide) → passes_128 w.op w.x w.y ≡ false → Fits w.op w.x w.y
unfolding passes_128
false_fits w h = all_within (named_numbers w.op w.x w.y) h

first_more : (w o : Wide) (ops : List Wide) → Fits o.op o.x o.y → IsFirstPassing w ops → IsFirstPassing w (o ∷ ops)
first_more w o ops f h = record { front = o ∷ h.front; behind = h.behind; place = ap (λ os. o ∷ os) h.place; fit = (f, h.fit); passes = h.passes }

-- all fit, or one is the first that passes
decide : (ops : List Wide) → AllFit ops ⊎ ((w : Wide) × IsFirstPassing w ops)
decide [] = inl tt
decide (o ∷ ops) = by_test (passes_128 o.op o.x o.y) refl (decide ops)
  where
    by_test : (b : Bool) → passes_128 o.op o.x o.y ≡ b → AllFit ops ⊎ ((w : Wide) × IsFirstPassing w ops) → AllFit (o ∷ ops) ⊎ ((w : Wide) × IsFirstPassing w (o ∷ ops))
    by_test true e ih = inr (o, record { front = []; behind = ops; place = refl; fit = tt; passes = true_passes o e })
    by_test false e (inl h) = inl (false_fits o e, h)
    by_test false e (inr h) = inr (h.0, first_more h.0 o ops (false_fits o e) h.1)

made_option : (o : Outcome) (r : Option Part) → form_in o ≡ value_or_none r → r ≡ part_made o
made_option ends None h = refl
made_option ends (Some x) h = absurd (cc)
made_option bent None h = refl
made_option bent (Some x) h = absurd (cc)
made_option (part p) None h = absurd (cc)
made_option (part p) (Some x) h = let e : form_of p ≡ x = cc in ap Some (sym e)

no_value : (w : Wide) (r : Option Part) (m : Met Part) → m ≡ passes w → m ≡ value_or_none r → ⊥
no_value w None m e h = absurd (cc)
no_value w (Some x) m e h = absurd (cc)

same_operation : (w u : Wide) (m : Met Part) → m ≡ passes w → m ≡ passes u → w ≡ u
same_operation w u m e h = cc

no_failure : (o : Outcome) (w : Wide) → form_in o ≡ passes w → ⊥
no_failure ends w h = absurd (cc)
no_failure bent w h = absurd (cc)
no_failure (part p) w h = absurd (cc)

module _ (ops : List Wide) (o : Outcome) where
  where_fit : AllFit ops → (r : Result (Option Part) LinFail) → Gives (and_then (made_by ops o) form_in) r → AnswersInMemory ops (part_made o) r
  where_fit f (Ok r) h = (f, made_option o r (sym (ap (λ (n : Met Outcome). and_then n form_in) (made_fits o ops f)) ∙ h))
  where_fit f (Err (fail.Wide w)) h = absurd (no_failure o w (sym (ap (λ (n : Met Outcome). and_then n form_in) (made_fits o ops f)) ∙ h))
  where_fit f (Err fail.Memory) h = tt

  where_past : (w : Wide) → IsFirstPassing w ops → (r : Result (Option Part) LinFail) → Gives (and_then (made_by ops o) form_in) r → AnswersInMemory ops (part_made o) r
  where_past w f (Ok r) h = absurd (no_value w r _ (ap (λ (n : Met Outcome). and_then n form_in) (made_first o ops w f)) h)
  where_past w f (Err (fail.Wide u)) h =
      let P : Wide → Type 0 = λ v. IsFirstPassing v ops in
      subst P (same_operation w u _ (ap (λ (n : Met Outcome). and_then n form_in) (made_first o ops w f)) h) f
  where_past w f (Err fail.Memory) h = tt

  by_decision : AllFit ops ⊎ ((w : Wide) × IsFirstPassing w ops) → (r : Result (Option Part) LinFail) → Gives (and_then (made_by ops o) form_in) r → AnswersInMemory ops (part_made o) r
  by_decision (inl f) r h = where_fit f r h
  by_decision (inr f) r h = where_past f.0 f.1 r h

  answers_from : (r : Result (Option Part) LinFail) → Gives (and_then (made_by ops o) form_in) r → AnswersInMemory ops (part_made o) r
  answers_from r h = by_decision (decide ops) r h

pub answered_part : (set : Setting) (args : List ℕ) (e : Expr) (r : Result (Option Part) LinFail) → Gives (part_met set args e) r → AnswersInMemory (work_of set args e).ops (part_made (work_of set args e).outcome) r
unfolding part_met
answered_part set args e r h = answers_from (work_of set args e).ops (work_of set args e).outcome r h
