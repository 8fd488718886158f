-- Literals: equal or not, and their opposites.
use Rattle.std.proofs.Common.{◌≡◌, ◌≢◌, ℕ, Bool, true, false, not, List, [], ◌∷◌, refl, ap, arith, inl, inr, ◌∙◌, ◌⊎◌}
use Rattle.std.specs.List.{Contains}
use Rattle.std.proofs.lemmas.Bool.{cases_eq}
use Rattle.std.proofs.lemmas.List.Elements.{Contains-append_cases, Contains-append_right, Contains-push_cases}
use Rattle.formula.specs.declared.atom.Lit.{Lit}
use Rattle.formula.specs.Reading.{opposite}

lit : ℕ → Bool → Lit
lit b p = record { boolean = b; pos = p }

not-not : (b : Bool) → not (not b) ≡ b
not-not true = refl
not-not false = refl

pub opposite-opposite : (l : Lit) → opposite (opposite l) ≡ l
unfolding lit
opposite-opposite l = ap (λ (b : Bool). lit l.boolean b) (not-not l.pos)

pub lit_same : (l m : Lit) → l.boolean ≡ m.boolean → l.pos ≡ m.pos → l ≡ m
unfolding lit
lit_same l m b p = ap (λ (n : ℕ). lit n l.pos) b ∙ ap (λ (t : Bool). lit m.boolean t) p

bool_or : (a b : Bool) → (a ≡ b) ⊎ (a ≢ b)
bool_or true true = inl refl
bool_or true false = inr (λ e. cc)
bool_or false true = inr (λ e. cc)
bool_or false false = inl refl

pub lit_or : (l m : Lit) → (l ≡ m) ⊎ (l ≢ m)
lit_or l m = by_boolean (cases_eq l.boolean m.boolean) (bool_or l.pos m.pos)
  where
    by_boolean : (l.boolean ≡ m.boolean) ⊎ (l.boolean ≡ m.boolean → ⊥) → (l.pos ≡ m.pos) ⊎ (l.pos ≢ m.pos) → (l ≡ m) ⊎ (l ≢ m)
    by_boolean (inl b) (inl p) = inl (lit_same l m b p)
    by_boolean (inl b) (inr np) = inr (λ e. np (ap (λ (x : Lit). x.pos) e))
    by_boolean (inr nb) p = inr (λ e. nb (ap (λ (x : Lit). x.boolean) e))

pub in_cons : {A : Type 0} (x y : A) (xs : List A) → Contains (x ∷ xs) y → (x ≡ y) ⊎ Contains xs y
in_cons x y xs h = by_part (Contains-append_cases (x ∷ []) xs y h)
  where
    by_one : Contains [] y ⊎ (x ≡ y) → x ≡ y
    by_one (inl n) = absurd (omega (arith, n.1))
    by_one (inr e) = e

    by_part : Contains (x ∷ []) y ⊎ Contains xs y → (x ≡ y) ⊎ Contains xs y
    by_part (inl a) = inl (by_one (Contains-push_cases [] x y a))
    by_part (inr b) = inr b

pub cons_in : {A : Type 0} (x y : A) (xs : List A) → Contains xs y → Contains (x ∷ xs) y
cons_in x y xs h = Contains-append_right (x ∷ []) xs y h

pub cons_same : {A : Type 0} (x : A) (xs : List A) → Contains (x ∷ xs) x
cons_same x xs = (0, omega arith, refl)
