-- What reading a fraction answers is the fraction that the text spells.
use Rattle.std.proofs.Common.{◌≡◌, ◌≢◌, ℕ, ◌<◌, ◌≤◌, ◌^◌, Bool, true, false, List, [], ◌∷◌, length, get_or, Option, Some, None, Result, Ok, Err, inl, inr, refl, sym, ◌∙◌, ap, ap₂, arith, rules}
use Rattle.std.specs.Prelude.{◌&&◌, ◌||◌, ◌==◌, not, nat_le, nat_lt, slice_index, if◌then◌else◌, option_and_then, IsTrue}
use Rattle.std.specs.Result.{result_ok}
use Rattle.std.proofs.lemmas.Bool.{and_parts, cases_Bool, false≢true}
use Rattle.std.proofs.lemmas.Bool.Decides.{nat_tests}
use Rattle.std.proofs.lemmas.Option.{none-some}
use lib.IntN.{pos}
use Rattle.algebra.specs.Gcd.{gcd}
use Rattle.rational.specs.Fraction.{Fraction, quotient}
use Rattle.rational.proofs.FieldLaws.{quotient-lowest}
use Rattle.frac128.specs.declared.text.NumFault.{NumFault}
use Rattle.frac128.specs.declared.text.NumFault.TheVariants.{Form, Wide}
use Rattle.frac128.specs.Text.{Spelling, Spells, IsPlain, IsNumerator, IsDenominator, top_value, value_behind, signed, ReadsFraction}
use Rattle.frac128.specs.Number.{spelling_of}
use Rattle.frac128.proofs.Number.{spelling_from_spells, spells_from_spelling}
use Rattle.frac128.proofs.Reading.{abs-signed, reads_made, no_form}
use Rattle.frac128.proofs.OneAnswer.{one_fraction}
use Rattle.cert_lines.specs.Spelled.{value}
use Rattle.cert_lines.specs.Lists.{is_plain, is_denominator, has_fraction_form, is_in_lowest_terms, fraction_by, fraction_of}

-- ---- the tests of the form

plain_is : (n d : ℕ) → (n == 1 || not (d == 48)) ≡ true → d ≡ 48 → n ≡ 1
plain_is n d test is = grind (arith, nat_tests)

plain_test : (n d : ℕ) → (d ≡ 48 → n ≡ 1) → (n == 1 || not (d == 48)) ≡ true
plain_test n d is = elim (cases_Bool (d == 48)) [
  | inl same ↦ let one : n ≡ 1 = is (by_test d same) in one_test n d one
  | inr other ↦ other_test n d other
]
  where
    by_test : (d : ℕ) → (d == 48) ≡ true → d ≡ 48
    by_test d test = grind (arith, nat_tests)

    one_test : (n d : ℕ) → n ≡ 1 → (n == 1 || not (d == 48)) ≡ true
    one_test n d one = grind (arith, nat_tests)

    other_test : (n d : ℕ) → (d == 48) ≡ false → (n == 1 || not (d == 48)) ≡ true
    other_test n d other = grind (arith, nat_tests)

no_truth : IsTrue false → ⊥
no_truth h = search rules

sign_is : (negative : Bool) (ds : List ℕ) → not (negative && slice_index ds 0 == 48) ≡ true → IsTrue negative → ds ≢ 48 ∷ []
sign_is true ds test neg same = by_first (slice_index ds 0) test (ap (λ (l : List ℕ). get_or l 0 0) same)
  where
    by_first : (d : ℕ) → not (d == 48) ≡ true → d ≡ 48 → ⊥
    by_first d test is = grind (arith, nat_tests)
sign_is false ds test neg same = absurd (no_truth neg)

only_zero : (ds : List ℕ) → slice_index ds 0 ≡ 48 → length ds ≡ 1 → ds ≡ 48 ∷ []
only_zero [] first one = absurd (omega (arith, one))
only_zero (d ∷ []) first one = ap (λ (c : ℕ). c ∷ []) first
only_zero (d ∷ e ∷ ds) first one = absurd (omega (arith, one))

sign_test : (negative : Bool) (ds : List ℕ) → IsPlain ds → (IsTrue negative → ds ≢ 48 ∷ []) → not (negative && slice_index ds 0 == 48) ≡ true
sign_test false ds plain sign = refl
sign_test true ds plain sign = by_first (slice_index ds 0) (λ is. sign (search rules) (only_zero ds is (plain is)))
  where
    by_first : (d : ℕ) → (d ≡ 48 → ⊥) → not (d == 48) ≡ true
    by_first d other = grind (arith, nat_tests)

denominator_is : (o : Option (List ℕ)) → is_denominator o ≡ true → IsDenominator o
denominator_is None test = tt
denominator_is (Some ds) test =
    let parts = and_parts (is_plain ds) (nat_le 2 (value ds)) test in (plain_is (length ds) (slice_index ds 0) parts.0, at_least (value ds) parts.1)
  where
    at_least : (v : ℕ) → nat_le 2 v ≡ true → 2 ≤ v
    at_least v test = grind (arith, nat_tests)

denominator_test : (o : Option (List ℕ)) → IsDenominator o → is_denominator o ≡ true
denominator_test None is = refl
denominator_test (Some ds) is = both_tests (is_plain ds) (value ds) (plain_test (length ds) (slice_index ds 0) is.0) is.1
  where
    both_tests : (b : Bool) (v : ℕ) → b ≡ true → 2 ≤ v → (b && nat_le 2 v) ≡ true
    both_tests b v plain large = grind (arith, nat_tests)

record HasForm (s : Spelling) : Type 0 where
  top : IsNumerator s.negative s.top
  bottom : IsDenominator s.bottom

form_is : (s : Spelling) → has_fraction_form s ≡ true → HasForm s
form_is s test =
    let parts = and_parts (is_plain s.top && not (s.negative && slice_index s.top 0 == 48)) (is_denominator s.bottom) test in
    let tops = and_parts (is_plain s.top) (not (s.negative && slice_index s.top 0 == 48)) parts.0 in
    record {
      top = record { plain = plain_is (length s.top) (slice_index s.top 0) tops.0; sign = sign_is s.negative s.top tops.1 };
      bottom = denominator_is s.bottom parts.1;
    }

form_test : (s : Spelling) → IsNumerator s.negative s.top → IsDenominator s.bottom → has_fraction_form s ≡ true
form_test s top bottom =
    let plain = plain_test (length s.top) (slice_index s.top 0) top.plain in
    let sign = sign_test s.negative s.top top.plain top.sign in
    let rest = denominator_test s.bottom bottom in
    three (is_plain s.top) (not (s.negative && slice_index s.top 0 == 48)) (is_denominator s.bottom) plain sign rest
  where
    three : (a b c : Bool) → a ≡ true → b ≡ true → c ≡ true → ((a && b) && c) ≡ true
    three a b c p q r = ap₂ ◌&&◌ (ap₂ ◌&&◌ p q) r

-- ---- an answer that is what the text spells

record Answer (text : List ℕ) (found : Option Fraction) : Type 0 where
  answer : Result Fraction NumFault
  reads : ReadsFraction text answer
  is : result_ok answer ≡ found

-- where the parts are of the form and make these numbers
abbrev fraction_with : Spelling → Fraction
fraction_with s = quotient (signed s.negative (top_value s)) (value_behind s.bottom)

positive_behind : (o : Option (List ℕ)) → IsDenominator o → 0 < value_behind o
positive_behind None is = omega arith
positive_behind (Some ds) is = let large = is.1 in omega (arith, large)

is_one : (n : ℕ) → (n == 1) ≡ true → n ≡ 1
is_one n test = grind (arith, nat_tests)

not_one : (n : ℕ) → (n == 1) ≡ false → n ≡ 1 → ⊥
not_one n test is = grind (arith, nat_tests)

-- where the two numbers are within the bound
lowest : (text : List ℕ) (s : Spelling) → Spells 47 text s → HasForm s → top_value s < 2 ^ 127 → value_behind s.bottom < 2 ^ 127 → (t : Bool) → (gcd (top_value s) (value_behind s.bottom) == 1) ≡ t
    → Answer text (if t then Some (fraction_with s) else None)
lowest text s h form top bottom true test =
    let v = top_value s in
    let w = value_behind s.bottom in
    let coprime = ap (λ (n : ℕ). gcd n w) (abs-signed s.negative v) ∙ is_one (gcd v w) test in
    let parts = quotient-lowest (signed s.negative v) w (positive_behind s.bottom form.bottom) coprime in
    record {
      answer = Ok (fraction_with s);
      reads = reads_made {n = signed s.negative v} {d = pos w} {v = v} {w = w} s (Ok (fraction_with s)) h form.top form.bottom (top, refl) (bottom, refl) refl refl (ap (λ (x : Fraction). x.num) parts, ap (λ (x : Fraction). pos x.den) parts);
      is = refl;
    }
lowest text s h form top bottom false test =
    let v = top_value s in
    let w = value_behind s.bottom in
    record {
      answer = Err Form;
      reads = reads_made {n = signed s.negative v} {d = pos w} {v = v} {w = w} s (Err Form) h form.top form.bottom (top, refl) (bottom, refl) refl refl (λ one. not_one (gcd v w) test (sym (ap (λ (n : ℕ). gcd n w) (abs-signed s.negative v)) ∙ one));
      is = refl;
    }

not_less : (n m : ℕ) → nat_lt n m ≡ false → m ≤ n
not_less n m test = grind (arith, nat_tests)

less : (n m : ℕ) → nat_lt n m ≡ true → n < m
less n m test = grind (arith, nat_tests)

in_bounds : (text : List ℕ) (s : Spelling) → Spells 47 text s → HasForm s → (a b : Bool) → nat_lt (top_value s) (2 ^ 127) ≡ a → nat_lt (value_behind s.bottom) (2 ^ 127) ≡ b
    → Answer text (if (a && b) && gcd (top_value s) (value_behind s.bottom) == 1 then Some (fraction_with s) else None)
in_bounds text s h form true true top bottom = lowest text s h form (less (top_value s) (2 ^ 127) top) (less (value_behind s.bottom) (2 ^ 127) bottom) _ refl
in_bounds text s h form true false top bottom = record {
  answer = Err Wide;
  reads = (s, record { spells = h; top = form.top; bottom = form.bottom }, inr (not_less (value_behind s.bottom) (2 ^ 127) bottom));
  is = refl;
}
in_bounds text s h form false b top bottom = record {
  answer = Err Wide;
  reads = (s, record { spells = h; top = form.top; bottom = form.bottom }, inl (not_less (top_value s) (2 ^ 127) top));
  is = refl;
}

by_form : (text : List ℕ) (s : Spelling) → Spells 47 text s → (t : Bool) → has_fraction_form s ≡ t → Answer text (if t && is_in_lowest_terms s then Some (fraction_with s) else None)
unfolding is_in_lowest_terms
by_form text s h true test = in_bounds text s h (form_is s test) _ _ refl refl
by_form text s h false test = record {
  answer = Err Form;
  reads = inl (no_form s h (λ top bottom. false≢true (sym test ∙ form_test s top bottom)));
  is = refl;
}

-- the answer for a spelling
by_spelling : (text : List ℕ) (s : Spelling) → Spells 47 text s → Answer text (fraction_by s)
by_spelling text s h = by_form text s h _ refl

by_option : (text : List ℕ) (o : Option Spelling) → spelling_of 47 text ≡ o → Answer text (option_and_then fraction_by o)
by_option text None is = record {
  answer = Err Form;
  reads = inl (λ s form. none-some s (sym is ∙ spelling_from_spells 47 text s (omega arith) (omega arith) form.spells));
  is = refl;
}
by_option text (Some s) is = by_spelling text s (spells_from_spelling 47 text s is)

-- the one answer
pub fraction_read : (text : List ℕ) (r : Result Fraction NumFault) → ReadsFraction text r → result_ok r ≡ fraction_of text
unfolding fraction_of
fraction_read text r reads = let own = by_option text (spelling_of 47 text) refl in ap result_ok (one_fraction text r own.answer reads own.reads) ∙ own.is
