-- Literals, and where they stand on a trail.
use Rattle.std.proofs.Common.{◌≡◌, ◌≢◌, ℕ, ◌+◌, Bool, true, false, not, List, [], ◌∷◌, ◌++◌, refl, sym, ap, arith, inl, inr, ◌∙◌, ◌⊎◌}
use Rattle.std.specs.List.{Contains}
use Rattle.std.proofs.lemmas.Option.{same_Some}
use Rattle.std.proofs.lemmas.Bool.{cases_eq}
use Rattle.std.proofs.lemmas.List.Elements.{Contains-append_cases, Contains-append_right, Contains-push_cases}
use Rattle.formula.specs.declared.atom.Lit.{Lit}
use Rattle.formula.specs.Reading.{opposite}
use Rattle.clause_trail.specs.declared.trail.Entry.{Entry}
use Rattle.clause_trail.specs.Standing.{Stands, Forces}
use Rattle.clause_trail.proofs.Gets.{get-push_old}

pub opposite-opposite : (l : Lit) → opposite (opposite l) ≡ l
opposite-opposite l =
    let twice : (b : Bool) → not (not b) ≡ b = λ b. elim b as (λ b. not (not b) ≡ b) [ true ↦ refl | false ↦ refl ] in
    ap (λ (b : Bool). let x : Lit = record { boolean = l.boolean; pos = b } in x) (twice l.pos)

pub lit_same : (l m : Lit) → l.boolean ≡ m.boolean → l.pos ≡ m.pos → l ≡ m
lit_same l m b p =
    ap (λ (n : ℕ). let x : Lit = record { boolean = n; pos = l.pos } in x) b ∙ ap (λ (t : Bool). let x : Lit = record { boolean = m.boolean; pos = t } in x) p

bool_or : (a b : Bool) → (a ≡ b) ⊎ (a ≢ b)
bool_or true true = inl refl
bool_or true false = inr (λ e. cc)
bool_or false true = inr (λ e. cc)
bool_or false false = inl refl

pub lit_or : (l m : Lit) → (l ≡ m) ⊎ (l ≢ m)
lit_or l m = elim (cases_eq l.boolean m.boolean) as (λ _. (l ≡ m) ⊎ (l ≢ m)) [
  | inl b ↦ elim (bool_or l.pos m.pos) as (λ _. (l ≡ m) ⊎ (l ≢ m)) [ inl p ↦ inl (lit_same l m b p) | inr np ↦ inr (λ e. np (ap (λ (x : Lit). x.pos) e)) ]
  | inr nb ↦ inr (λ e. nb (ap (λ (x : Lit). x.boolean) e))
]

pub not_opposite : (l : Lit) → l ≡ opposite l → ⊥
not_opposite l e =
    let differs : (b : Bool) → b ≡ not b → ⊥ = λ b. elim b as (λ b. b ≡ not b → ⊥) [ true ↦ λ h. cc | false ↦ λ h. cc ] in
    differs l.pos (ap (λ (x : Lit). x.pos) e)

-- one place has one literal
pub same_stand : (entries : List Entry) (p : ℕ) (l m : Lit) → Stands entries p l → Stands entries p m → l ≡ m
same_stand entries p l m a b = ap (λ (x : Entry). x.lit) (same_Some _ _ (sym a.1 ∙ b.1))

pub in_cons : (x y : Lit) (xs : List Lit) → Contains (x ∷ xs) y → (x ≡ y) ⊎ Contains xs y
in_cons x y xs h = elim (Contains-append_cases (x ∷ []) xs y h) [
  | inl a ↦ elim (Contains-push_cases [] x y a) [ inl n ↦ absurd (omega (arith, n.1)) | inr e ↦ inl e ]
  | inr b ↦ inr b
]

pub cons_in : (x y : Lit) (xs : List Lit) → Contains xs y → Contains (x ∷ xs) y
cons_in x y xs h = Contains-append_right (x ∷ []) xs y h

pub cons_same : (x : Lit) (xs : List Lit) → Contains (x ∷ xs) x
cons_same x xs = (0, omega arith, refl)

pub stands_push : (entries rest : List Entry) (p : ℕ) (l : Lit) → Stands entries p l → Stands (entries ++ rest) p l
stands_push entries rest p l s = (s.0, get-push_old entries rest p _ s.1)

pub forces_push : {entries : List Entry} {n : ℕ} {c : List Lit} {l : Lit} (rest : List Entry) → Forces entries n c l → Forces (entries ++ rest) n c l
forces_push {entries = entries} rest f = record { within = f.within; others = λ m in' ne. let b = f.others m in' ne in (b.0, b.1, stands_push entries rest b.0 _ b.2) }
