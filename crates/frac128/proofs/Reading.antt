-- What a spelling says of the fraction: its text, and why a text gives none.
use Rattle.std.proofs.Common.{◌≡◌, ◌≢◌, ℕ, zero, suc, ◌+◌, ◌<◌, ◌≤◌, ◌^◌, Bool, true, false, cond, eqb, Option, Some, None, Result, Ok, Err, List, [], ◌∷◌, ◌++◌, length, ◌*◌, inr, refl, sym, ap, ap₂, subst, ◌∙◌, arith, append_assoc}
use Rattle.std.proofs.lemmas.Bool.Decides.{nat_tests}
use Rattle.std.proofs.Math.Nat.{pos_of_ne-zero}
use Rattle.std.specs.Char.{digit_value}
use Rattle.std.specs.Bool.{IsTrue}
use Rattle.std.specs.Prelude.{slice_index}
use Rattle.std.specs.Option.{IfSome}
use Rattle.std.specs.Fmt.{sign_text}
use Rattle.std.specs.Str.Parse.{IsNumeral, digits_value}
use lib.IntN.{ℤ, pos, nat_abs}
use Rattle.algebra.specs.Gcd.{gcd}
use Rattle.algebra.proofs.Reduce.{nat_abs-neg}
use Rattle.rational.specs.Fraction.{Fraction}
use Rattle.frac128.specs.declared.text.NumFault.{NumFault}
use Rattle.frac128.specs.declared.text.NumFault.TheVariants.{Form, Wide}
use Rattle.frac128.specs.Text.{Spelling, Spells, behind, digits, number_text, text_of, IsNumerator, IsDenominator, IsFractionText, top_value, value_behind, signed, IsPlain, ReadsFraction, MakesReduced}
use Rattle.frac128.proofs.Digits.{digits-value, digits_zero, glyph-value}
use Rattle.frac128.proofs.OneSpelling.{same_spelling, value_ge}

-- ---- the text of what is read
top_by : (negative : Bool) (ds : List ℕ) (v : ℕ) → v ≡ digits_value 10 ds → digits v ≡ ds → (IsTrue negative → ds ≢ 48 ∷ []) → number_text (signed negative v) ≡ sign_text negative ++ ds
top_by false ds v e f h = f
top_by true ds zero e f h = absurd (h refl (sym f ∙ digits_zero))
top_by true ds (suc v) e f h = ap (λ (xs : List ℕ). 45 ∷ xs) f

top_text : (negative : Bool) (ds : List ℕ) → IsNumeral 10 ds → IsNumerator negative ds → number_text (signed negative (digits_value 10 ds)) ≡ sign_text negative ++ ds
top_text negative ds h n = top_by negative ds _ refl (digits-value ds h n.plain) n.sign

over_text : (v : ℕ) (ds : List ℕ) (t : Bool) → eqb v 1 ≡ t → 2 ≤ v → digits v ≡ ds → cond t [] (47 ∷ digits v) ≡ 47 ∷ ds
over_text v ds true e h f = absurd (grind (arith, nat_tests))
over_text v ds false e h f = ap (λ (xs : List ℕ). 47 ∷ xs) f

bottom_text : (o : Option (List ℕ)) → IfSome o (IsNumeral 10) → IsDenominator o → cond (eqb (value_behind o) 1) [] (47 ∷ digits (value_behind o)) ≡ behind 47 o
bottom_text None h d = refl
bottom_text (Some ds) h d = over_text (digits_value 10 ds) ds _ refl d.1 (digits-value ds h d.0)

pub abs-signed : (negative : Bool) (v : ℕ) → nat_abs (signed negative v) ≡ v
abs-signed true v = nat_abs-neg v
abs-signed false v = refl

text_is : (text : List ℕ) (s : Spelling) (x : Fraction) → IsFractionText text s → x.num ≡ signed s.negative (top_value s) → x.den ≡ value_behind s.bottom → text ≡ text_of x
text_is text s x f e d =
    let b = ap (λ (n : ℕ). cond (eqb n 1) [] (47 ∷ digits n)) d ∙ bottom_text s.bottom f.spells.bottom f.bottom in
    let t = ap number_text e ∙ top_text s.negative s.top f.spells.top f.top in
    f.spells.whole ∙ sym (append_assoc (sign_text s.negative) s.top (behind 47 s.bottom)) ∙ sym (ap₂ (λ (xs ys : List ℕ). xs ++ ys) t b)

-- ---- from the two numbers
pub reads_made : {text : List ℕ} {n d : ℤ} {v w : ℕ} (s : Spelling) (r : Result Fraction NumFault) → Spells 47 text s → IsNumerator s.negative s.top → IsDenominator s.bottom
    → (top_value s < 2 ^ 127) × (v ≡ top_value s) → (value_behind s.bottom < 2 ^ 127) × (w ≡ value_behind s.bottom) → n ≡ signed s.negative v → d ≡ pos w → MakesReduced n d r → ReadsFraction text r
reads_made {text} s (Ok x) h a b v w e f m =
    let t : IsFractionText text s = record { spells = h; top = a; bottom = b } in
    let p : x.num ≡ signed s.negative (top_value s) = m.0 ∙ e ∙ ap (signed s.negative) v.1 in
    let q : x.den ≡ value_behind s.bottom = ap nat_abs (m.1 ∙ f) ∙ w.1 in
    let i : nat_abs x.num ≡ top_value s = ap nat_abs p ∙ abs-signed s.negative (top_value s) in
    (text_is text s x t p q, record { num = omega (arith, v.0, i); den = omega (arith, w.0, q) })
reads_made {text} s (Err Form) h a b v w e f m =
    let t : IsFractionText text s = record { spells = h; top = a; bottom = b } in
    let i : nat_abs (signed s.negative (top_value s)) ≡ top_value s = abs-signed s.negative (top_value s) in
    inr (s, t, (v.0, w.0), λ g. m (ap₂ (λ (y z : ℤ). gcd (nat_abs y) (nat_abs z)) (e ∙ ap (signed s.negative) v.1) (f ∙ ap pos w.1) ∙ ap (λ (k : ℕ). gcd k (value_behind s.bottom)) i ∙ g))
reads_made {text} s (Err Wide) h a b v w e f m = absurd m

pub no_form : {text : List ℕ} (s : Spelling) → Spells 47 text s → (IsNumerator s.negative s.top → IsDenominator s.bottom → ⊥) → (t : Spelling) → IsFractionText text t → ⊥
no_form {text} s h r t f =
    let P : Spelling → Type 0 = λ u. IsNumerator u.negative u.top → IsDenominator u.bottom → ⊥ in
    subst P (same_spelling s t (omega arith) (omega arith) h f.spells) r f.top f.bottom

-- ---- a plain number is 2 or more where it has two digits, or one above `1`
first_above : (c : ℕ) → digit_value c < 10 → c ≢ 48 → 0 < digit_value c
first_above c h n = let e = glyph-value c h in pos_of_ne-zero (λ z. let f : c ≡ 48 = omega arith in n f)

pub two_digits : (ds : List ℕ) → IsNumeral 10 ds → IsPlain ds → 1 < length ds → 2 ≤ digits_value 10 ds
two_digits [] h p l = absurd (omega arith)
two_digits (c ∷ []) h p l = absurd (omega arith)
two_digits (c ∷ d ∷ es) h p l =
    let a = first_above c h.1.0 (λ e. absurd (omega (arith, p e))) in
    omega (arith, value_ge ((0 * 10 + digit_value c) * 10 + digit_value d) es)

pub one_digit : (ds : List ℕ) → IsNumeral 10 ds → length ds ≡ 1 → digits_value 10 ds + 48 ≡ slice_index ds 0
one_digit [] h l = absurd (omega arith)
one_digit (c ∷ []) h l = omega (arith, glyph-value c h.1.0)
one_digit (c ∷ d ∷ es) h l = absurd (omega arith)
