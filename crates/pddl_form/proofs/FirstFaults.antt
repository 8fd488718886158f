-- The one syntax of a tree without a fault, and the first of some faults.
use Rattle.std.proofs.Common.{◌≡◌, ℕ, ◌<◌, ◌≤◌, ◌⊎◌, Bool, true, false, List, [], ◌∷◌, length, get_or, zero, suc, ◌∙◌, Some, None, refl, sym, ap, subst, inl, inr, arith}
use Rattle.std.specs.List.{Contains}
use Rattle.std.specs.Prelude.{if◌then◌else◌, ◌&&◌, ◌||◌, ◌==◌, nat_lt}
use Rattle.std.proofs.lemmas.Bool.Decides.{nat_tests}
use Rattle.pddl_form.specs.declared.fault.Fault.{Fault}
use Rattle.pddl_form.specs.Faults.{is_before, least}
use Rattle.pddl_form.specs.Judged.{Judged, good, bad}
use Rattle.pddl_form.specs.Laws.{HasOneSyntax, IsNoLater, IsFirstOf}

pub one_syntax : {A : Type 0} (j : Judged A) → HasOneSyntax j
one_syntax (good a) = record { fine = λ none. (a, record { is = refl; only = λ b is. cc }); faulty = λ some b is. some refl }
one_syntax (bad f more) = record { fine = λ none. absurd (cc none); faulty = λ some b is. cc is }

-- numbers alone
later : (p q k l : ℕ) (b : Bool) → b ≡ (nat_lt q p || (q == p && nat_lt l k)) → b ≡ false → (p < q) ⊎ ((p ≡ q) × (k ≤ l))
later p q k l b is isnt = grind (arith, nat_tests)

sooner : (p q k l : ℕ) (b : Bool) → b ≡ (nat_lt q p || (q == p && nat_lt l k)) → b ≡ true → (q < p) ⊎ ((q ≡ p) × (l ≤ k))
sooner p q k l b is so = grind (arith, nat_tests)

through : (f g h : Fault) → IsNoLater f g → IsNoLater g h → IsNoLater f h
through f g h (inl a) (inl b) = inl (omega arith)
through f g h (inl a) (inr b) = inl (omega (arith, b.0))
through f g h (inr a) (inl b) = inl (omega (arith, a.0))
through f g h (inr a) (inr b) = inr (omega (arith, a.0, b.0), omega (arith, a.1, b.1))

itself : (f : Fault) → IsNoLater f f
itself f = inr (refl, omega arith)

contains_here : (x : Fault) (xs : List Fault) → Contains (x ∷ xs) x
contains_here x xs = (0, omega arith, refl)

contains_more : (x y : Fault) (xs : List Fault) → Contains xs y → Contains (x ∷ xs) y
contains_more x y xs at = (suc at.0, omega (arith, at.1), at.2)

first_or_more : (x y : Fault) (xs : List Fault) (k : ℕ) → k < length (x ∷ xs) → get_or (x ∷ xs) k y ≡ y → (x ≡ y) ⊎ Contains xs y
first_or_more x y xs zero within is = inl is
first_or_more x y xs (suc k) within is = inr (k, omega (arith, within), is)

contains_cases : (x y : Fault) (xs : List Fault) → Contains (x ∷ xs) y → (x ≡ y) ⊎ Contains xs y
contains_cases x y xs at = first_or_more x y xs at.0 at.1 at.2

empty_contains : (y : Fault) → Contains [] y → ⊥
empty_contains y at = absurd (omega (arith, at.1))

no_later : (f g : Fault) → is_before g f ≡ false → IsNoLater f g
no_later f g isnt = later f.place g.place f.kind g.kind (is_before g f) refl isnt

no_later_before : (f g : Fault) → is_before g f ≡ true → IsNoLater g f
no_later_before f g so = sooner f.place g.place f.kind g.kind (is_before g f) refl so

least_from : (a : Fault) (fs : List Fault) (f : Fault) → least (Some a) fs ≡ Some f → IsFirstOf (a ∷ fs) f
least_from a [] f is =
    let same : a ≡ f = cc is in
    record {
      among = subst (λ (x : Fault). Contains (a ∷ []) x) same (contains_here a []);
      none_before = λ other at. elim (contains_cases a other [] at) [
        | inl eq ↦ subst (IsNoLater f) eq (subst (λ (x : Fault). IsNoLater x a) same (itself a))
        | inr at ↦ absurd (empty_contains other at)
      ];
    }
least_from a (g ∷ fs) f is = by_test (is_before g a) refl (least_from a fs f) (least_from g fs f)
  where
    by_test : (b : Bool) → is_before g a ≡ b → (least (Some a) fs ≡ Some f → IsFirstOf (a ∷ fs) f) → (least (Some g) fs ≡ Some f → IsFirstOf (g ∷ fs) f) → IsFirstOf (a ∷ g ∷ fs) f
    by_test true so from_a from_g =
        let r = from_g (sym (ap (λ (b : Bool). least (Some (if b then g else a)) fs) so) ∙ is) in
        record {
          among = contains_more a f (g ∷ fs) r.among;
          none_before = λ other at. elim (contains_cases a other (g ∷ fs) at) [
            | inl eq ↦ subst (IsNoLater f) eq (through f g a (r.none_before g (contains_here g fs)) (no_later_before a g so))
            | inr more ↦ r.none_before other more
          ];
        }
    by_test false isnt from_a from_g =
        let r = from_a (sym (ap (λ (b : Bool). least (Some (if b then g else a)) fs) isnt) ∙ is) in
        record {
          among = elim (contains_cases a f fs r.among) [
            | inl eq ↦ subst (λ (x : Fault). Contains (a ∷ g ∷ fs) x) eq (contains_here a (g ∷ fs))
            | inr more ↦ contains_more a f (g ∷ fs) (contains_more g f fs more)
          ];
          none_before = λ other at. elim (contains_cases a other (g ∷ fs) at) [
            | inl eq ↦ subst (IsNoLater f) eq (r.none_before a (contains_here a fs))
            | inr more ↦ elim (contains_cases g other fs more) [
              | inl eq ↦ subst (IsNoLater f) eq (through f a g (r.none_before a (contains_here a fs)) (no_later a g isnt))
              | inr rest ↦ r.none_before other (contains_more a other fs rest)
            ]
          ];
        }

pub first_is_least : (faults : List Fault) (first : Fault) → least None faults ≡ Some first → IsFirstOf faults first
first_is_least [] first is = absurd (cc is)
first_is_least (f ∷ faults) first is = least_from f faults first is
