-- The terms of a negative are the negative terms.
use Rattle.std.proofs.Common.{◌≡◌, ◌<◌, ℕ, zero, suc, ◌+◌, Bool, true, false, ◌≤◌, [], ◌∷◌, ◌++◌, map, length, drop, get_or, refl, sym, ap, subst, ◌∙◌, arith, append_assoc}
use Rattle.std.proofs.lemmas.List.{append-nil, drop_all}
use lib.IntN.{pos, negsuc}
use Rattle.algebra.proofs.Solve.{v, k, ◌⊗◌, inv, solve, solve_from, eq, done}
use Rattle.rational.specs.Fraction.{Fraction, whole, ◌*ℚ◌, neg_ℚ}
use Rattle.rational.specs.Linear.{Terms}
use Rattle.rational.proofs.FieldLaws.{fraction-ring}
use Rattle.lin.specs.Normal.{is_zero, IsNormal, is_normal_from, put_first}
use Rattle.lin.specs.Linear.{Linear, scale}
use Rattle.lin.specs.Negative.{negative}
use Rattle.lin.specs.Code.{same_linear}
use Rattle.lin.proofs.Merging.{normal_parts, put_some}
use Rattle.lin.proofs.Multiples.{kept, kept-collected}
use Rattle.lin.proofs.MergeSteps.{IsNext, next}
use Rattle.lin.proofs.ValueLaws.{is_zero-true}

-- each coefficient's negative
abbrev pub negatives : Terms → Terms
negatives ts = map (λ t. (t.0, neg_ℚ t.1)) ts

minus_one : (x : Fraction) → whole (negsuc 0) *ℚ x ≡ neg_ℚ x
minus_one x = solve fraction-ring (k (negsuc 0) ⊗ v 0) (inv (v 0)) (x ∷ []) refl

-- the negative of what isn't 0 isn't 0
some_negative : (x : Fraction) → is_zero x ≡ false → (b : Bool) → is_zero (neg_ℚ x) ≡ b → b ≡ false
some_negative x h false e = refl
some_negative x h true e =
    let z : x ≡ whole (pos 0) = solve_from fraction-ring (v 0) (k (pos 0)) (x ∷ neg_ℚ x ∷ []) (eq (k (negsuc 0)) (inv (v 0)) (k (pos 0)) (is_zero-true (neg_ℚ x) e) done) refl in
    let g : is_zero x ≡ true = ap is_zero z in absurd (cc)

kept-negative : (least : ℕ) (ts : Terms) → is_normal_from least ts ≡ true → kept (whole (negsuc 0)) ts ≡ negatives ts
kept-negative least [] h = refl
kept-negative least (t ∷ ts) h =
    let p = normal_parts least t ts h in
    ap (λ (x : Fraction). put_first (t.0, x) (kept (whole (negsuc 0)) ts)) (minus_one t.1)
    ∙ put_some (t.0, neg_ℚ t.1) (kept (whole (negsuc 0)) ts) (some_negative t.1 p.some (is_zero (neg_ℚ t.1)) refl)
    ∙ ap (λ (us : Terms). (t.0, neg_ℚ t.1) ∷ us) (kept-negative (suc t.0) ts p.rest)

pub terms-negative : (l : Linear) → (negative l).terms ≡ negatives l.terms
unfolding scale
terms-negative l = sym (kept-collected 0 (whole (negsuc 0)) l.terms l.normal) ∙ kept-negative 0 l.terms l.normal

pub constant-negative : (l : Linear) → (negative l).constant ≡ neg_ℚ l.constant
unfolding scale
constant-negative l = minus_one l.constant

-- ---- the code
pub normal-negative : (l : Linear) (ts us : Terms) → ts ≡ l.terms → us ≡ negatives ts → IsNormal us
normal-negative l ts us e f = subst IsNormal (terms-negative l ∙ sym (f ∙ ap negatives e)) (negative l).normal

pub is_negative : (l r : Linear) (ts us : Terms) (c d : Fraction) → ts ≡ l.terms → us ≡ negatives ts → c ≡ l.constant → d ≡ neg_ℚ c → r.terms ≡ us → r.constant ≡ d → r ≡ negative l
is_negative l r ts us c d e f g h p q =
    same_linear r (negative l) (p ∙ f ∙ ap negatives e ∙ sym (terms-negative l)) (q ∙ h ∙ ap neg_ℚ g ∙ sym (constant-negative l))

-- the next term's negative is the next of the negatives
pub next-negative : (ts : Terms) (i : ℕ) (t : ℕ × Fraction) (x : Fraction) → IsNext ts i t → x ≡ neg_ℚ t.1 → IsNext (negatives ts) i (t.0, x)
next-negative ts i t x h f = subst (λ (y : Fraction). IsNext (negatives ts) i (t.0, y)) (sym f) (go ts i h.within h.is)
  where
    go : (ts : Terms) (i : ℕ) → i < length ts → t ≡ get_or ts i t → IsNext (negatives ts) i (t.0, neg_ℚ t.1)
    go [] i l e = absurd (omega arith)
    go (u ∷ us) zero l e = record { within = omega arith; is = ap (λ (w : ℕ × Fraction). (w.0, neg_ℚ w.1)) e }
    go (u ∷ us) (suc i) l e = let n = go us i (omega arith) e in let w = n.within in record { within = omega arith; is = n.is }

-- ---- the loop that makes them
pub negatives-start : (ts out : Terms) → out ≡ [] → negatives ts ≡ out ++ negatives (drop 0 ts)
negatives-start ts out e = ap (λ (us : Terms). us ++ negatives ts) (sym e)

pub negatives-next : (ts out more : Terms) (i : ℕ) (t : ℕ × Fraction) (x : Fraction) → IsNext ts i t → x ≡ neg_ℚ t.1 → more ≡ out ++ (t.0, x) ∷ []
    → negatives ts ≡ out ++ negatives (drop i ts) → negatives ts ≡ more ++ negatives (drop (i + 1) ts)
negatives-next ts out more i t x n f e h =
    h ∙ ap (λ (us : Terms). out ++ negatives us) (next ts i t n) ∙ ap (λ (y : Fraction). out ++ (t.0, y) ∷ negatives (drop (i + 1) ts)) (sym f)
    ∙ sym (append_assoc out ((t.0, x) ∷ []) (negatives (drop (i + 1) ts))) ∙ ap (λ (us : Terms). us ++ negatives (drop (i + 1) ts)) (sym e)

pub negatives-done : (ts out : Terms) (i : ℕ) → length ts ≤ i → negatives ts ≡ out ++ negatives (drop i ts) → out ≡ negatives ts
negatives-done ts out i l h = sym (h ∙ ap (λ (us : Terms). out ++ negatives us) (drop_all i ts l) ∙ append-nil out)

pub length-negatives : (ts : Terms) → length (negatives ts) ≡ length ts
length-negatives [] = refl
length-negatives (t ∷ ts) = let e = length-negatives ts in omega arith
