-- A normal expression divided by what isn't 0 is normal.
use Rattle.std.proofs.Common.{◌≡◌, ◌≢◌, ℕ, suc, Bool, true, false, [], ◌∷◌, refl, ap, ◌∙◌}
use lib.IntN.{pos, negsuc}
use Rattle.algebra.proofs.Solve.{v, k, ◌⊕◌, ◌⊗◌, inv, solve, solve_from, eq, done}
use Rattle.rational.specs.Fraction.{Fraction, whole, neg_ℚ, inv_ℚ, ◌+ℚ◌, ◌*ℚ◌, ◌/ℚ◌}
use Rattle.rational.specs.Linear.{Terms}
use Rattle.rational.proofs.FieldLaws.{fraction-ring}
use Rattle.rational.proofs.Division.{mul-inv}
use Rattle.lin.specs.Normal.{is_zero, is_normal_from}
use Rattle.lin.specs.Linear.{times}
use Rattle.lin.proofs.Merging.{normal_parts, normal_cons}
use Rattle.lin.proofs.ValueLaws.{is_zero-true}
use Rattle.encode_laws.specs.Numbering.{divided}

pub is_zero-false : (x : Fraction) → is_zero x ≡ false → x ≢ whole (pos 0)
is_zero-false x h e = let g : is_zero x ≡ true = ap is_zero e in absurd (cc)

some_quotient : (a x : Fraction) → a ≢ whole (pos 0) → is_zero x ≡ false → (b : Bool) → is_zero (x /ℚ a) ≡ b → b ≡ false
some_quotient a x z n false e = refl
some_quotient a x z n true e =
    let zero_x : x ≡ whole (pos 0) = solve_from fraction-ring (v 0) (k (pos 0)) (x ∷ a ∷ inv_ℚ a ∷ []) (eq (v 1) (v 0 ⊗ v 2) (k (pos 0)) (is_zero-true (x /ℚ a) e) (eq (k (negsuc 0) ⊗ v 0) (v 1 ⊗ v 2) (k (pos 1)) (mul-inv a z) done)) refl in
    let g : is_zero x ≡ true = ap is_zero zero_x in absurd (cc)

pub divided-normal : (a : Fraction) → a ≢ whole (pos 0) → (least : ℕ) (ts : Terms) → is_normal_from least ts ≡ true → is_normal_from least (divided a ts) ≡ true
divided-normal a z least [] h = refl
divided-normal a z least (t ∷ ts) h =
    let p = normal_parts least t ts h in
    normal_cons least (t.0, t.1 /ℚ a) (divided a ts) p.low (some_quotient a t.1 z p.some (is_zero (t.1 /ℚ a)) refl) (divided-normal a z (suc t.0) ts p.rest)

-- the multiple by the inverse is the quotient
pub times-divided : (a : Fraction) (ts : Terms) → times (inv_ℚ a) ts ≡ divided a ts
times-divided a [] = refl
times-divided a (t ∷ ts) =
    ap (λ (x : Fraction). (t.0, x) ∷ times (inv_ℚ a) ts) (solve fraction-ring (v 0 ⊗ v 1) (v 1 ⊗ v 0) (inv_ℚ a ∷ t.1 ∷ []) refl)
    ∙ ap (λ (us : Terms). (t.0, t.1 /ℚ a) ∷ us) (times-divided a ts)

pub no_constant : (a x : Fraction) → whole (pos 0) ≡ a *ℚ (x +ℚ neg_ℚ x)
no_constant a x = solve fraction-ring (k (pos 0)) (v 0 ⊗ (v 1 ⊕ inv (v 1))) (a ∷ x ∷ []) refl

pub itself : (a : Fraction) → a ≢ whole (pos 0) → a /ℚ a ≡ whole (pos 1)
itself a h = mul-inv a h
