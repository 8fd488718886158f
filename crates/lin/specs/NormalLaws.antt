-- Collected terms are normal.
use Rattle.std.proofs.Common.{◌≡◌, ◌≤◌, ℕ, suc, Bool, true, false, not, cond, [], ◌∷◌, refl, ap, arith, nat_eq, nat_lt, nat_le}
use Rattle.std.proofs.lemmas.Bool.{and_parts, and_from}
use Rattle.std.proofs.lemmas.Bool.Decides.{nat_tests}
use Rattle.rational.specs.Fraction.{Fraction, ◌+ℚ◌}
use Rattle.rational.specs.Linear.{Terms}
use Rattle.lin.specs.Normal.{is_zero, is_normal_from, IsNormal, put_first, with_term, collected}

pub above : (m n : ℕ) → nat_lt m n ≡ true → nat_le (suc m) n ≡ true
above m n e = grind (arith, nat_tests)

pub after : (m n : ℕ) → nat_lt m n ≡ false → nat_eq m n ≡ false → nat_le (suc n) m ≡ true
after m n f g = grind (arith, nat_tests)

pub up : (m n : ℕ) → nat_le m n ≡ true → m ≤ suc n
up m n e = grind (arith, nat_tests)

pub from_zero : (n : ℕ) → nat_le 0 n ≡ true
from_zero n = grind (arith, nat_tests)

pub lower : (k m n : ℕ) → k ≤ m → nat_le m n ≡ true → nat_le k n ≡ true
lower k m n h e = grind (arith, nat_tests)

-- a term in front of terms of later variables
pub normal-put_first : (least : ℕ) (t : ℕ × Fraction) (ts : Terms) → nat_le least t.0 ≡ true → is_normal_from (suc t.0) ts ≡ true → is_normal_from least ts ≡ true
    → is_normal_from least (put_first t ts) ≡ true
normal-put_first least t ts p h g = by_test (is_zero t.1) refl
  where
    by_test : (b : Bool) → is_zero t.1 ≡ b → is_normal_from least (cond b ts (t ∷ ts)) ≡ true
    by_test true e = g
    by_test false e = and_from _ _ p (and_from _ _ (ap not e) h)

-- what is normal from a number on is so from a lesser one on
pub normal-lower : (least more : ℕ) (ts : Terms) → least ≤ more → is_normal_from more ts ≡ true → is_normal_from least ts ≡ true
normal-lower least more [] h g = refl
normal-lower least more (t ∷ ts) h g =
    let p = and_parts (nat_le more t.0) _ g in and_from _ _ (lower least more t.0 h p.0) p.1

-- one more term whose variable isn't too low
pub normal-with_term : (least : ℕ) (t : ℕ × Fraction) (ts : Terms) → nat_le least t.0 ≡ true → is_normal_from least ts ≡ true → is_normal_from least (with_term t ts) ≡ true
normal-with_term least t [] p h = normal-put_first least t [] p refl refl
normal-with_term least t (u ∷ us) p h =
    let p0 = and_parts (nat_le least u.0) _ h in
    let p1 = and_parts (not (is_zero u.1)) _ p0.1 in
    by_order (nat_lt t.0 u.0) (nat_eq t.0 u.0) refl refl p0.0 p1.0 p1.1 (λ q. normal-with_term (suc u.0) t us q p1.1)
  where
    by_order : (l e : Bool) → nat_lt t.0 u.0 ≡ l → nat_eq t.0 u.0 ≡ e
        → nat_le least u.0 ≡ true → not (is_zero u.1) ≡ true → is_normal_from (suc u.0) us ≡ true
        → (nat_le (suc u.0) t.0 ≡ true → is_normal_from (suc u.0) (with_term t us) ≡ true)
        → is_normal_from least (cond l (put_first t (u ∷ us)) (cond e (put_first (u.0, t.1 +ℚ u.1) us) (u ∷ with_term t us))) ≡ true
    by_order true e f g low some more ih = normal-put_first least t (u ∷ us) p (and_from _ _ (above t.0 u.0 f) (and_from _ _ some more)) h
    by_order false true f g low some more ih = normal-put_first least (u.0, t.1 +ℚ u.1) us low more (normal-lower least (suc u.0) us (up least u.0 low) more)
    by_order false false f g low some more ih = and_from _ _ low (and_from _ _ some (ih (after t.0 u.0 f g)))

-- collected terms are normal
pub normal-collected : (ts : Terms) → IsNormal (collected ts)
normal-collected [] = refl
normal-collected (t ∷ ts) = normal-with_term 0 t (collected ts) (from_zero t.0) (normal-collected ts)

-- one term with a coefficient that isn't 0 is normal
pub normal-one : (n : ℕ) (c : Fraction) → is_zero c ≡ false → IsNormal ((n, c) ∷ [])
normal-one n c e = and_from _ _ (from_zero n) (and_from _ _ (ap not e) refl)
