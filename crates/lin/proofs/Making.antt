-- A constant and a variable, made of their parts.
use Rattle.std.proofs.Common.{◌≡◌, ℕ, [], ◌∷◌, ◌++◌, refl, sym, ap, subst, ◌∙◌}
use lib.IntN.{pos}
use Rattle.rational.specs.Fraction.{Fraction, whole, quotient}
use Rattle.rational.specs.Linear.{Terms}
use Rattle.rational.proofs.FieldLaws.{quotient-itself}
use Rattle.lin.specs.Normal.{IsNormal}
use Rattle.lin.specs.NormalLaws.{normal-one}
use Rattle.lin.specs.Linear.{Linear, var}
use Rattle.lin.specs.Code.{same_linear}

pub normal-none : (ts : Terms) → ts ≡ [] → IsNormal ts
normal-none ts e = subst IsNormal (sym e) refl

one_term : (v : ℕ) (ts us : Terms) (x : Fraction) → us ≡ [] → x ≡ quotient (pos 1) 1 → ts ≡ us ++ (v, x) ∷ [] → ts ≡ (v, whole (pos 1)) ∷ []
one_term v ts us x e f g = g ∙ ap (λ (ws : Terms). ws ++ (v, x) ∷ []) e ∙ ap (λ (y : Fraction). (v, y) ∷ []) (f ∙ quotient-itself (whole (pos 1)))

pub normal-var : (v : ℕ) (ts us : Terms) (x : Fraction) → us ≡ [] → x ≡ quotient (pos 1) 1 → ts ≡ us ++ (v, x) ∷ [] → IsNormal ts
normal-var v ts us x e f g = subst IsNormal (sym (one_term v ts us x e f g)) (normal-one v (whole (pos 1)) refl)

pub is_var : (v : ℕ) (l : Linear) (ts us : Terms) (x z : Fraction) → us ≡ [] → x ≡ quotient (pos 1) 1 → ts ≡ us ++ (v, x) ∷ []
    → z ≡ quotient (pos 0) 1 → l.terms ≡ ts → l.constant ≡ z → l ≡ var v
is_var v l ts us x z e f g h p q = same_linear l (var v) (p ∙ one_term v ts us x e f g) (q ∙ h ∙ quotient-itself (whole (pos 0)))
