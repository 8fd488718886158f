-- States that differ in some targets, until what touches keep is put back.
use Rattle.std.proofs.Common.{◌≡◌, ℕ, ◌+◌, ◌<◌, ◌≤◌, ◌==◌, Bool, true, false, ◌&&◌, ◌||◌, cond, List, [], ◌∷◌, map, length, get_or, drop, refl, sym, ap, ap₂, subst, ◌∙◌}
use Rattle.std.proofs.lemmas.Bool.{eqb-true}
use Rattle.std.proofs.lemmas.List.{drop_more, drop_all}
use Rattle.std.specs.Prelude.{bytes_eq}
use Rattle.std.specs.List.{list_any}
use Rattle.std.specs.Cmp.Lexicographic.{bytes_decides}
use Rattle.plan_step.specs.declared.touches.Touch.{Touch}
use Rattle.plan_step.specs.declared.touches.Touch.TheVariants as touch
use Rattle.plan_step.specs.State.{PlanState}
use Rattle.plan_step.specs.Touches.{Target, target_of, IsKept, DiffersIn, is_atom, is_function}
use Rattle.plan_step.specs.inside.Application.{put_back}
use Rattle.plan_step.proofs.Booleans.{flipped, both_true}
use Rattle.plan_step.proofs.Truths.{one_state}

pub chosen : {A : Type 0} (b : Bool) (x y z : A) → (b ≡ true → x ≡ z) → (b ≡ false → y ≡ z) → cond b x y ≡ z
chosen true x y z f g = f refl
chosen false x y z f g = g refl

-- equal heads and arguments
pub one_call : {A : Type 0} (of : ℕ → List ℕ → A) (q p : ℕ) (others args : List ℕ) → (q == p && bytes_eq others args) ≡ true → of p args ≡ of q others
one_call of q p others args h =
    let k = both_true (q == p) (bytes_eq others args) h in
    ap₂ of (sym (eqb-true q p k.0)) (sym ((bytes_decides others args).0 k.1))

module _ (s t : PlanState) (rest : List Target) where
  back : (u : Touch) → IsKept s u → DiffersIn (target_of u ∷ rest) s t → DiffersIn rest s (put_back u t)
  back (touch.Atom sign p args old) kept h = record {
    truth = λ q others none. chosen (q == p && bytes_eq others args) old (t.truth q others) (s.truth q others)
        (λ here. kept ∙ one_call s.truth q p others args here)
        (λ apart. h.truth q others (ap (λ (b : Bool). b || list_any (is_atom q others) rest) (flipped p q args others ∙ apart) ∙ none));
    value = h.value;
  }
  back (touch.Function op f args by old) kept h = record {
    truth = h.truth;
    value = λ g others none. chosen (g == f && bytes_eq others args) old (t.value g others) (s.value g others)
        (λ here. kept ∙ one_call s.value g f others args here)
        (λ apart. h.value g others (ap (λ (b : Bool). b || list_any (is_function g others) rest) (flipped f g args others ∙ apart) ∙ none));
  }

module _ (touches : List Touch) (s t : PlanState) (i : ℕ) where
  abbrev pub Rest : Type 0
  Rest = DiffersIn (map target_of (drop i touches)) s t

  pub back_more : (u : Touch) (new : PlanState) → Rest → i < length touches → u ≡ get_or touches i u → IsKept s u → new ≡ put_back u t → DiffersIn (map target_of (drop (i + 1) touches)) s new
  back_more u new h within is kept put =
      let P : List Touch → Type 0 = λ us. DiffersIn (map target_of us) s t in
      let split : drop i touches ≡ u ∷ drop (i + 1) touches = drop_more touches i u within ∙ ap (λ (v : Touch). v ∷ drop (i + 1) touches) (sym is) in
      subst (λ (n : PlanState). DiffersIn (map target_of (drop (i + 1) touches)) s n) (sym put) (back s t (map target_of (drop (i + 1) touches)) u kept (subst P split h))

  pub all_back : Rest → length touches ≤ i → t ≡ s
  all_back h past =
      let P : List Touch → Type 0 = λ us. DiffersIn (map target_of us) s t in
      let e : DiffersIn [] s t = subst P (drop_all i touches past) h in
      one_state t s (λ p args. e.truth p args refl) (λ f args. e.value f args refl)

pub differs_refl : (targets : List Target) (s t : PlanState) → t ≡ s → DiffersIn targets s t
differs_refl targets s t is = record { truth = λ p args none. ap (λ (u : PlanState). u.truth p args) is; value = λ f args none. ap (λ (u : PlanState). u.value f args) is }

pub differs_on : (targets : List Target) (s t u : PlanState) → DiffersIn targets s t → DiffersIn targets t u → DiffersIn targets s u
differs_on targets s t u h k = record { truth = λ p args none. k.truth p args none ∙ h.truth p args none; value = λ f args none. k.value f args none ∙ h.value f args none }
