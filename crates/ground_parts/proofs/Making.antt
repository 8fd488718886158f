-- What operations in order come to, and what an answer of a call on linear expressions says of it.
use Rattle.std.proofs.Common.{◌≡◌, Bool, true, false, cond, List, [], ◌∷◌, ◌++◌, get_or, Option, Result, refl, sym, ap, subst, ◌∙◌, arith}
use Rattle.std.proofs.lemmas.Bool.Decides.{nat_tests}
use Rattle.std.proofs.lemmas.List.Folds.{list_any_none, list_any-from_Any}
use lib.IntN.{ℤ}
use Rattle.rational.specs.Fraction.{Fraction}
use Rattle.frac128.specs.Bounds.{IsWithin, IsPast}
use Rattle.frac128.specs.Operations.{Fits, Passes, named_numbers}
use Rattle.frac128.specs.declared.operations.Wide.{Wide}
use Rattle.lin.specs.declared.failure.LinFail.{LinFail}
use Rattle.lin.specs.declared.failure.LinFail.TheVariants as fail
use Rattle.lin.specs.Operations.{AllFit, IsFirstPassing, IsRefusal}
use Rattle.plan_step.specs.Met.{Met, found, lacks, passes, is_past, passes_128, and_then}
use Rattle.ground_parts.specs.inside.Giving.{made_by, FailsAs, Gives}

within_not_past : (z : ℤ) → IsWithin z → is_past z ≡ false
within_not_past z h = grind (arith, nat_tests)

past : (z : ℤ) → IsPast z → is_past z ≡ true
past z h = grind (arith, nat_tests)

pub fits_false : (w : Wide) → Fits w.op w.x w.y → passes_128 w.op w.x w.y ≡ false
unfolding passes_128
fits_false w h = list_any_none is_past (named_numbers w.op w.x w.y) (λ k d l. within_not_past (get_or (named_numbers w.op w.x w.y) k d) (h k d l))

pub passes_true : (w : Wide) → Passes w.op w.x w.y → passes_128 w.op w.x w.y ≡ true
unfolding passes_128
passes_true w h = list_any-from_Any is_past (named_numbers w.op w.x w.y) (h.0, h.1, h.2, h.3, past h.1 h.4)

module _ {A : Type 0} (x : A) where
  pub made_fits : (ops : List Wide) → AllFit ops → made_by ops x ≡ found x
  made_fits [] h = refl
  made_fits (o ∷ ops) h = ap (λ b. cond b (passes o) (made_by ops x)) (fits_false o h.0) ∙ made_fits ops h.1

  made_front : (front : List Wide) (w : Wide) (behind : List Wide) → AllFit front → Passes w.op w.x w.y → made_by (front ++ w ∷ behind) x ≡ passes w
  made_front [] w behind h p = ap (λ b. cond b (passes w) (made_by behind x)) (passes_true w p)
  made_front (o ∷ front) w behind h p = ap (λ b. cond b (passes o) (made_by (front ++ w ∷ behind) x)) (fits_false o h.0) ∙ made_front front w behind h.1 p

  pub made_first : (ops : List Wide) (w : Wide) → IsFirstPassing w ops → made_by ops x ≡ passes w
  made_first ops w h = ap (λ os. made_by os x) h.place ∙ made_front h.front w h.behind h.fit h.passes

  pub refusal_fails : (ops : List Wide) (e : LinFail) → IsRefusal ops e → FailsAs (made_by ops x) e
  refusal_fails ops (fail.Wide w) h = made_first ops w h
  refusal_fails ops fail.Memory h = tt

-- one operation, and several, whose value the answer has
pub one_ok : {A : Type 0} (w : Wide) (k : Fraction → A) (z v : Fraction) → Fits w.op w.x w.y → z ≡ v → made_by (w ∷ []) (k v) ≡ found (k z)
one_ok w k z v f e = ap (λ b. cond b (passes w) (found (k v))) (fits_false w f) ∙ ap (λ t. found (k t)) (sym e)

pub one_err : {A : Type 0} (w u : Wide) (x : A) → Passes w.op w.x w.y → u ≡ w → made_by (w ∷ []) x ≡ passes u
one_err w u x p e = ap (λ b. cond b (passes w) (found x)) (passes_true w p) ∙ ap passes (sym e)

pub many_ok : {A B : Type 0} (ops : List Wide) (k : B → A) (z v : B) → AllFit ops → z ≡ v → made_by ops (k v) ≡ found (k z)
many_ok ops k z v f e = made_fits (k v) ops f ∙ ap (λ t. found (k t)) (sym e)

-- what follows a failure is the failure
pub fails_then : {A B : Type 0} (m : Met A) (f : A → Met B) (e : LinFail) → FailsAs m e → FailsAs (and_then m f) e
fails_then m f (fail.Wide w) h = ap (λ n. and_then n f) h
fails_then m f fail.Memory h = tt

pub fails_as : {A : Type 0} (m n : Met A) (e : LinFail) → m ≡ n → FailsAs m e → FailsAs n e
fails_as m n (fail.Wide w) e h = sym e ∙ h
fails_as m n fail.Memory e h = tt

-- ---- one after the other
pub then_group : {A B C : Type 0} (m : Met A) (f : A → Met B) (g : B → Met C) → and_then (and_then m f) g ≡ and_then m (λ x. and_then (f x) g)
then_group (found x) f g = refl
then_group lacks f g = refl
then_group (passes w) f g = refl

pub then_same : {A B : Type 0} (m : Met A) (f g : A → Met B) → ((x : A) → f x ≡ g x) → and_then m f ≡ and_then m g
then_same (found x) f g h = h x
then_same lacks f g h = refl
then_same (passes w) f g h = refl

pub then_found : {A : Type 0} (m : Met A) → m ≡ and_then m found
then_found (found x) = refl
then_found lacks = refl
then_found (passes w) = refl

-- operations alone
abbrev pub all_made : List Wide → Met (Unit {0})
all_made ops = made_by ops tt

pub made_then : {A : Type 0} (xs ys : List Wide) (x : A) → made_by (xs ++ ys) x ≡ and_then (all_made xs) (λ _. made_by ys x)
made_then [] ys x = refl
made_then (o ∷ xs) ys x = by_test (passes_128 o.op o.x o.y) (made_then xs ys x)
  where
    by_test : (b : Bool) → made_by (xs ++ ys) x ≡ and_then (all_made xs) (λ _. made_by ys x) → cond b (passes o) (made_by (xs ++ ys) x) ≡ and_then (cond b (passes o) (all_made xs)) (λ _. made_by ys x)
    by_test true ih = refl
    by_test false ih = ih

pub made_value : {A B : Type 0} (xs : List Wide) (x : A) (f : A → Met B) → and_then (made_by xs x) f ≡ and_then (all_made xs) (λ _. f x)
made_value [] x f = refl
made_value (o ∷ xs) x f = by_test (passes_128 o.op o.x o.y) (made_value xs x f)
  where
    by_test : (b : Bool) → and_then (made_by xs x) f ≡ and_then (all_made xs) (λ _. f x) → and_then (cond b (passes o) (made_by xs x)) f ≡ and_then (cond b (passes o) (all_made xs)) (λ _. f x)
    by_test true ih = refl
    by_test false ih = ih

pub gives_as : {A : Type 0} (m n : Met A) (r : Result (Option A) LinFail) → m ≡ n → Gives m r → Gives n r
gives_as {A} m n r e h = let P : Met A → Type 0 = λ k. Gives k r in subst P e h
