-- An expression is stored as its terms and its constant.
use Rattle.std.specs.Prelude.{◌≡◌, Bool, true, false, refl}
use Rattle.std.specs.Coded.{Coded, code_by, coded×, coded_list, coded_ℕ}
use Rattle.std.proofs.Common.{ap, subst}
use Rattle.std.proofs.Math.Bool.{Bool-set}
use Rattle.rational.specs.Fraction.{Fraction}
use Rattle.rational.specs.Linear.{Terms}
use Rattle.frac128.specs.Code.{fraction_code}
use Rattle.lin.specs.Normal.{IsNormal, is_normal_from}
use Rattle.lin.specs.Linear.{Linear, fixed}

abbrev made : (ts : Terms) → Fraction → IsNormal ts → Linear
made ts c p = record { terms = ts; constant = c; normal = p }

two_proofs : (ts : Terms) (p q : IsNormal ts) → p ≡ q
two_proofs ts p q = Bool-set _ _ p q

same_made : (ts us : Terms) (c : Fraction) (p : IsNormal ts) (q : IsNormal us) → ts ≡ us → made ts c p ≡ made us c q
same_made ts us c p q e = let P : Terms → Type 0 = λ ws. (r : IsNormal ws) → made ts c p ≡ made ws c r in
    subst P e (λ r. ap (made ts c) (two_proofs ts p r)) q

-- two expressions with one list of terms and one constant are equal
pub same_linear : (l m : Linear) → l.terms ≡ m.terms → l.constant ≡ m.constant → l ≡ m
same_linear l m e f = let P : Fraction → Type 0 = λ c. l ≡ made m.terms c m.normal in
    subst P f (same_made l.terms m.terms l.constant l.normal m.normal e)

-- the expression with these parts, where the terms are normal
abbrev made_where : (ts : Terms) → Fraction → (b : Bool) → is_normal_from 0 ts ≡ b → Linear
made_where ts c true p = made ts c p
made_where ts c false p = fixed c

pub made_again : (l : Linear) (b : Bool) (p : is_normal_from 0 l.terms ≡ b) → made_where l.terms l.constant b p ≡ l
made_again l true p = ap (made l.terms l.constant) (two_proofs l.terms p l.normal)
made_again l false p = let h : is_normal_from 0 l.terms ≡ true = l.normal in absurd (cc)

abbrev pub linear_code : Coded Linear
linear_code = code_by (Terms × Fraction) (coded× (coded_list (coded× coded_ℕ fraction_code)) fraction_code) (λ l. (l.terms, l.constant))
    (λ p. made_where p.0 p.1 (is_normal_from 0 p.0) refl) (λ l. made_again l (is_normal_from 0 l.terms) refl)
