-- The first of some faults and then of others.
use Rattle.std.proofs.Common.{◌≡◌, ℕ, Bool, true, false, List, [], ◌∷◌, Option, Some, None, refl, sym, ◌∙◌, ap, arith}
use Rattle.std.specs.Prelude.{if◌then◌else◌, ◌&&◌, ◌||◌, ◌==◌, nat_lt}
use Rattle.std.proofs.lemmas.Bool.Decides.{nat_tests}
use Rattle.pddl_form.specs.declared.fault.Fault.{Fault}
use Rattle.pddl_form.specs.Faults.{is_before, first_of, first_with, least}
use Rattle.pddl_form.specs.Judged.{Judged, good, bad, noted}
use Rattle.plan_text.specs.inside.Steps.{with_first}

abbrev sooner : ℕ → ℕ → ℕ → ℕ → Bool
sooner p k q l = nat_lt p q || (p == q && nat_lt k l)

sooner_through : (p k q l r m : ℕ) → sooner p k q l ≡ true → sooner q l r m ≡ true → sooner p k r m ≡ true
sooner_through p k q l r m first second = grind (arith, nat_tests)

later_through : (p k q l r m : ℕ) → sooner p k q l ≡ false → sooner q l r m ≡ false → sooner p k r m ≡ false
later_through p k q l r m first second = grind (arith, nat_tests)

first_of-first_of : (a f g : Fault) → first_of a (first_of f g) ≡ first_of (first_of a f) g
first_of-first_of a f g = by_tests (is_before g f) refl (is_before f a) refl
  where
    by_tests : (q : Bool) → is_before g f ≡ q → (p : Bool) → is_before f a ≡ p → first_of a (first_of f g) ≡ first_of (first_of a f) g
    by_tests true second true first =
        let third : is_before g a ≡ true = sooner_through g.place g.kind f.place f.kind a.place a.kind second first in
        ap (λ (t : Bool). first_of a (if t then g else f)) second ∙ ap (λ (t : Bool). if t then g else a) third
        ∙ sym (ap (λ (t : Bool). first_of (if t then f else a) g) first ∙ ap (λ (t : Bool). if t then g else f) second)
    by_tests true second false first =
        ap (λ (t : Bool). first_of a (if t then g else f)) second ∙ sym (ap (λ (t : Bool). first_of (if t then f else a) g) first)
    by_tests false second true first =
        ap (λ (t : Bool). first_of a (if t then g else f)) second ∙ ap (λ (t : Bool). if t then f else a) first
        ∙ sym (ap (λ (t : Bool). first_of (if t then f else a) g) first ∙ ap (λ (t : Bool). if t then g else f) second)
    by_tests false second false first =
        let third : is_before g a ≡ false = later_through g.place g.kind f.place f.kind a.place a.kind second first in
        ap (λ (t : Bool). first_of a (if t then g else f)) second ∙ ap (λ (t : Bool). if t then f else a) first
        ∙ sym (ap (λ (t : Bool). first_of (if t then f else a) g) first ∙ ap (λ (t : Bool). if t then g else a) third)

first_with-first_of : (old : Option Fault) (f g : Fault) → first_with old (first_of f g) ≡ first_of (first_with old f) g
first_with-first_of None f g = refl
first_with-first_of (Some a) f g = first_of-first_of a f g

with_first-least : (old : Option Fault) (f : Fault) (fs : List Fault) → with_first old (least (Some f) fs) ≡ least (Some (first_with old f)) fs
with_first-least old f [] = refl
with_first-least old f (g ∷ fs) = with_first-least old (first_of f g) fs ∙ ap (λ (x : Fault). least (Some x) fs) (first_with-first_of old f g)

pub with_first-noted : {A : Type 0} (old : Option Fault) (j : Judged A) → with_first old (noted None j) ≡ noted old j
unfolding noted
with_first-noted old (good a) = refl
with_first-noted old (bad f more) = with_first-least old f more
