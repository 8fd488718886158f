-- The test of two lists of terms is that of their equality.
use Rattle.std.proofs.Common.{◌≡◌, ◌<◌, ℕ, suc, Bool, true, false, List, [], ◌∷◌, length, refl, ap, ap₂, subst, arith}
use Rattle.std.specs.Prelude.{slice_get}
use Rattle.std.proofs.lemmas.Bool.{and_parts, and_from}
use Rattle.std.proofs.lemmas.Option.{same_Some}
use lib.IntN.{ℤ, pos, negsuc}
use Rattle.rational.specs.Fraction.{Fraction}
use Rattle.rational.specs.Linear.{Terms}
use Rattle.rational.proofs.FieldLaws.{same_parts}
use Rattle.tableau.proofs.SumLaws.{nat_eq-same, nat_eq-true}
use Rattle.formula.specs.Equal.{same_ℤ, same_fraction, same_terms}

same_ℤ-true : (m n : ℤ) → same_ℤ m n ≡ true → m ≡ n
same_ℤ-true (pos m) (pos n) h = ap pos (nat_eq-true m n h)
same_ℤ-true (negsuc m) (negsuc n) h = ap negsuc (nat_eq-true m n h)
same_ℤ-true (pos m) (negsuc n) h = absurd (cc)
same_ℤ-true (negsuc m) (pos n) h = absurd (cc)

same_ℤ-self : (m : ℤ) → same_ℤ m m ≡ true
same_ℤ-self (pos m) = nat_eq-same m
same_ℤ-self (negsuc m) = nat_eq-same m

same_fraction-true : (x y : Fraction) → same_fraction x y ≡ true → x ≡ y
same_fraction-true x y h = let b = and_parts _ _ h in same_parts x y (same_ℤ-true x.num y.num b.0) (nat_eq-true x.den y.den b.1)

same_fraction-self : (x : Fraction) → same_fraction x x ≡ true
same_fraction-self x = and_from _ _ (same_ℤ-self x.num) (nat_eq-same x.den)

pub same_terms-true : (ts us : Terms) → same_terms ts us ≡ true → ts ≡ us
same_terms-true [] [] h = refl
same_terms-true [] (u ∷ us) h = absurd (cc)
same_terms-true (t ∷ ts) [] h = absurd (cc)
same_terms-true (t ∷ ts) (u ∷ us) h =
    let b = and_parts _ _ h in
    let c = and_parts _ _ b.1 in
    let first : t ≡ u = (λ i. (nat_eq-true t.0 u.0 b.0 i, same_fraction-true t.1 u.1 c.0 i)) in
    ap₂ (λ (x : ℕ × Fraction) (xs : Terms). x ∷ xs) first (same_terms-true ts us c.1)

pub same_terms-self : (ts : Terms) → same_terms ts ts ≡ true
same_terms-self [] = refl
same_terms-self (t ∷ ts) = and_from _ _ (nat_eq-same t.0) (and_from _ _ (same_fraction-self t.1) (same_terms-self ts))

pub same_terms-apart : (ts us : Terms) → (ts ≡ us → ⊥) → same_terms ts us ≡ false
same_terms-apart ts us d = by_test (same_terms ts us) refl
  where
    by_test : (b : Bool) → same_terms ts us ≡ b → b ≡ false
    by_test true e = absurd (d (same_terms-true ts us e))
    by_test false e = refl

pub same_terms-equal : (ts us : Terms) → ts ≡ us → same_terms ts us ≡ true
same_terms-equal ts us e = subst (λ (vs : Terms). same_terms ts vs ≡ true) e (same_terms-self ts)

-- lists with the same elements are equal
pub same_lists : {X : Type 0} (xs ys : List X) → length xs ≡ length ys → ((i : ℕ) → i < length xs → slice_get xs i ≡ slice_get ys i) → xs ≡ ys
same_lists [] [] e h = refl
same_lists [] (y ∷ ys) e h = absurd (omega arith)
same_lists (x ∷ xs) [] e h = absurd (omega arith)
same_lists {X = X} (x ∷ xs) (y ∷ ys) e h =
    ap₂ (λ (z : X) (zs : List X). z ∷ zs) (same_Some x y (h 0 (omega arith))) (same_lists xs ys (omega arith) (λ i l. h (suc i) (omega arith)))
