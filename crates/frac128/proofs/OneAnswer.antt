-- The clauses of each call leave one answer.
use Rattle.std.proofs.Common.{◌≡◌, ◌≢◌, ℕ, suc, ◌<◌, ◌≤◌, ◌^◌, Bool, true, false, cond, eqb, Option, Some, None, Result, Ok, Err, List, [], ◌∷◌, ◌++◌, get_or, inl, inr, refl, sym, ap, ap₂, subst, ◌∙◌, arith}
use Rattle.std.proofs.lemmas.Bool.{false≢true}
use Rattle.std.proofs.lemmas.Bool.Decides.{nat_tests}
use Rattle.std.specs.Fmt.{sign_text}
use Rattle.std.specs.List.{All, Any}
use lib.IntN.{ℤ, pos, negsuc, nat_abs}
use Rattle.algebra.specs.Gcd.{gcd}
use Rattle.rational.specs.Fraction.{Fraction, quotient}
use Rattle.rational.proofs.FieldLaws.{same_parts}
use Rattle.frac128.specs.Bounds.{IsFrac, IsWithin, IsPast}
use Rattle.frac128.specs.declared.text.NumFault.{NumFault}
use Rattle.frac128.specs.declared.text.NumFault.TheVariants.{Form, Wide}
use Rattle.frac128.specs.Text.{Spelling, Spells, digits, number_text, text_of, IsFractionText, top_value, value_behind, HasPast, NonePast, IsReducedText, signed, ReadsFraction}
use Rattle.frac128.specs.Decimal.{places, all_digits_value, ReadsDecimal}
use Rattle.frac128.specs.Operations.{named_numbers}
use Rattle.frac128.specs.Laws.{TextsTellFractions, ReadsWhatIsWritten, FractionTextHasOneAnswer, DecimalHasOneAnswer, OperationHasOneAnswer}
use Rattle.frac128.proofs.Digits.{value-digits, IsNumeral-digits, IsPlain-digits, first_above}
use Rattle.frac128.proofs.OneSpelling.{same_spelling}

-- ---- the spelling of a fraction's text
abbrev negative_of : ℤ → Bool
negative_of (pos n) = false
negative_of (negsuc n) = true

abbrev bottom_of : ℕ → Bool → Option (List ℕ)
bottom_of d t = cond t None (Some (digits d))

abbrev spelling_by : ℤ → ℕ → Bool → Spelling
spelling_by z d t = record { negative = negative_of z; top = digits (nat_abs z); bottom = bottom_of d t }

signed_text : (z : ℤ) (b : List ℕ) → number_text z ++ b ≡ sign_text (negative_of z) ++ (digits (nat_abs z) ++ b)
signed_text (pos n) b = refl
signed_text (negsuc n) b = refl

no_minus_zero : (z : ℤ) → negative_of z ≡ true → digits (nat_abs z) ≢ 48 ∷ []
no_minus_zero (pos n) h e = absurd (false≢true h)
no_minus_zero (negsuc n) h e = absurd (omega (arith, first_above (suc n) (omega arith), ap (λ (xs : List ℕ). get_or xs 0 0) e))

spells_by : (z : ℤ) (d : ℕ) (t : Bool) → eqb d 1 ≡ t → 0 < d → IsFractionText (number_text z ++ cond t [] (47 ∷ digits d)) (spelling_by z d t)
spells_by z d true e h = record {
  spells = record { whole = signed_text z []; top = IsNumeral-digits (nat_abs z); bottom = tt };
  top = record { plain = IsPlain-digits (nat_abs z); sign = no_minus_zero z };
  bottom = tt;
}
spells_by z d false e h = record {
  spells = record { whole = signed_text z (47 ∷ digits d); top = IsNumeral-digits (nat_abs z); bottom = IsNumeral-digits d };
  top = record { plain = IsPlain-digits (nat_abs z); sign = no_minus_zero z };
  bottom = (IsPlain-digits d, let k : 2 ≤ d = grind (arith, nat_tests) in omega (arith, value-digits d));
}

abbrev spelling_of : Fraction → Spelling
spelling_of x = spelling_by x.num x.den (eqb x.den 1)

spells_text : (x : Fraction) → IsFractionText (text_of x) (spelling_of x)
spells_text x = spells_by x.num x.den (eqb x.den 1) refl x.positive

behind_by : (d : ℕ) (t : Bool) → eqb d 1 ≡ t → value_behind (bottom_of d t) ≡ d
behind_by d true e = grind (arith, nat_tests)
behind_by d false e = value-digits d

-- the spelling of a text that is x's has x's numbers
pub record IsSpellingOf (x : Fraction) (s : Spelling) : Type 0 where
  pub negative : s.negative ≡ negative_of x.num
  pub top : top_value s ≡ nat_abs x.num
  pub bottom : value_behind s.bottom ≡ x.den

spelling_is : (text : List ℕ) (x : Fraction) (s : Spelling) → text ≡ text_of x → IsFractionText text s → IsSpellingOf x s
spelling_is text x s e f =
    let h : Spells 47 text (spelling_of x) = subst (λ (t : List ℕ). Spells 47 t (spelling_of x)) (sym e) (spells_text x).spells in
    let g : spelling_of x ≡ s = same_spelling (spelling_of x) s (omega arith) (omega arith) h f.spells in
    let r : IsSpellingOf x (spelling_of x) = record { negative = refl; top = value-digits (nat_abs x.num); bottom = behind_by x.den (eqb x.den 1) refl } in
    subst (IsSpellingOf x) g r

-- ---- the laws of the texts
same_num : (z w : ℤ) → negative_of z ≡ negative_of w → nat_abs z ≡ nat_abs w → z ≡ w
same_num (pos m) (pos n) e f = ap pos f
same_num (pos m) (negsuc n) e f = absurd (false≢true e)
same_num (negsuc m) (pos n) e f = absurd (false≢true (sym e))
same_num (negsuc m) (negsuc n) e f = ap negsuc (omega arith)

pub texts_tell : TextsTellFractions
texts_tell x y e =
    let a = spelling_is (text_of x) x (spelling_of x) refl (spells_text x) in let b = spelling_is (text_of x) y (spelling_of x) e (spells_text x) in
    same_parts x y (same_num x.num y.num (sym a.negative ∙ b.negative) (sym a.top ∙ b.top)) (sym a.bottom ∙ b.bottom)

fits_past : (x : Fraction) (s : Spelling) → IsSpellingOf x s → IsFrac x → HasPast s → ⊥
fits_past x s a f (inl h) = omega (arith, a.top, f.num, h)
fits_past x s a f (inr h) = omega (arith, a.bottom, f.den, h)

none_past : (s : Spelling) → HasPast s → NonePast s → ⊥
none_past s (inl h) n = omega (arith, h, n.0)
none_past s (inr h) n = omega (arith, h, n.1)

is_reduced : (x : Fraction) (s : Spelling) → IsSpellingOf x s → IsReducedText s
is_reduced x s a = ap₂ gcd a.top a.bottom ∙ x.coprime

ok_wide : (text : List ℕ) (x : Fraction) → ReadsFraction text (Ok x) → ReadsFraction text (Err Wide) → ⊥
ok_wide text x h (s, f, p) = fits_past x s (spelling_is text x s h.0 f) h.1 p

ok_form : (text : List ℕ) (x : Fraction) → ReadsFraction text (Ok x) → ReadsFraction text (Err Form) → ⊥
ok_form text x h (inl n) = n (spelling_of x) (subst (λ (t : List ℕ). IsFractionText t (spelling_of x)) (sym h.0) (spells_text x))
ok_form text x h (inr (s, f, n, r)) = r (is_reduced x s (spelling_is text x s h.0 f))

wide_form : (text : List ℕ) → ReadsFraction text (Err Wide) → ReadsFraction text (Err Form) → ⊥
wide_form text (s, f, p) (inl n) = n s f
wide_form text (s, f, p) (inr (t, g, n, r)) = none_past t (subst HasPast (same_spelling s t (omega arith) (omega arith) f.spells g.spells) p) n

pub one_fraction : FractionTextHasOneAnswer
one_fraction text (Ok x) (Ok y) h j = ap Ok (texts_tell x y (sym h.0 ∙ j.0))
one_fraction text (Ok x) (Err Wide) h j = absurd (ok_wide text x h j)
one_fraction text (Ok x) (Err Form) h j = absurd (ok_form text x h j)
one_fraction text (Err Wide) (Ok y) h j = absurd (ok_wide text y j h)
one_fraction text (Err Wide) (Err Wide) h j = refl
one_fraction text (Err Wide) (Err Form) h j = absurd (wide_form text h j)
one_fraction text (Err Form) (Ok y) h j = absurd (ok_form text y j h)
one_fraction text (Err Form) (Err Wide) h j = absurd (wide_form text j h)
one_fraction text (Err Form) (Err Form) h j = refl

pub reads_written : ReadsWhatIsWritten
reads_written text r x h =
    (λ e. let P : Result Fraction NumFault → Type 0 = ReadsFraction text in subst P e h, λ w. one_fraction text r (Ok x) h w)

-- ---- decimal numbers
too_many : (s t : Spelling) → s ≡ t → places s ≤ 38 → 38 < places t → ⊥
too_many s t e h p = omega (arith, ap places e)

too_great : (s t : Spelling) → s ≡ t → all_digits_value s < 2 ^ 127 → 2 ^ 127 ≤ all_digits_value t → ⊥
too_great s t e h p = omega (arith, ap all_digits_value e)

decimal_ok_wide : (text : List ℕ) (x : Fraction) → ReadsDecimal text (Ok x) → ReadsDecimal text (Err Wide) → ⊥
decimal_ok_wide text x (s, f, a, b, e) (t, g, inl p) = too_many s t (same_spelling s t (omega arith) (omega arith) f g) a p
decimal_ok_wide text x (s, f, a, b, e) (t, g, inr p) = too_great s t (same_spelling s t (omega arith) (omega arith) f g) b p

pub one_decimal : DecimalHasOneAnswer
one_decimal text (Ok x) (Ok y) (s, f, a, b, e) (t, g, c, d, i) =
    let P : Spelling → Fraction = λ u. quotient (signed u.negative (all_digits_value u)) (10 ^ places u) in
    ap Ok (e ∙ ap P (same_spelling s t (omega arith) (omega arith) f g) ∙ sym i)
one_decimal text (Ok x) (Err Wide) h j = absurd (decimal_ok_wide text x h j)
one_decimal text (Ok x) (Err Form) (s, f, a, b, e) j = absurd (j s f)
one_decimal text (Err Wide) (Ok y) h j = absurd (decimal_ok_wide text y j h)
one_decimal text (Err Wide) (Err Wide) h j = refl
one_decimal text (Err Wide) (Err Form) (s, f, p) j = absurd (j s f)
one_decimal text (Err Form) (Ok y) h (s, f, a, b, e) = absurd (h s f)
one_decimal text (Err Form) (Err Wide) h (s, f, p) = absurd (h s f)
one_decimal text (Err Form) (Err Form) h j = refl

-- ---- the operations
past_within : (zs : List ℤ) → All IsWithin zs → Any IsPast zs → ⊥
past_within zs h (k, z, l, e, p) = let w = subst IsWithin e (h k z l) in omega (arith, w, p)

pub one_operation : OperationHasOneAnswer
one_operation op x y (Ok r) (Ok s) h j = ap Ok (h.1 ∙ sym j.1)
one_operation op x y (Ok r) (Err s) h j = absurd (past_within (named_numbers op x y) h.0 j.0)
one_operation op x y (Err r) (Ok s) h j = absurd (past_within (named_numbers op x y) j.0 h.0)
one_operation op x y (Err r) (Err s) h j = ap Err (h.1 ∙ sym j.1)
