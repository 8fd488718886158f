-- Counts that digits write.
use Rattle.std.proofs.Common.{◌≡◌, ◌≢◌, inl, inr, ℕ, ◌<◌, ◌≤◌, ◌^◌, ◌||◌, ◌==◌, Bool, true, false, List, [], ◌∷◌, length, get_or, Option, Some, None, Result, Ok, Err, refl, sym, ◌∙◌, ap, subst, rules, arith}
use Rattle.std.proofs.lemmas.Bool.{cases_lt}
use Rattle.std.proofs.lemmas.Bool.Decides.{nat_tests}
use Rattle.std.proofs.lemmas.Str.Parse.{IsNumeralModel, numerals_by_value, parse_digits}
use Rattle.std.specs.Prelude.{if◌then◌else◌, nat_le, slice_index}
use Rattle.std.specs.Char.{is_ascii_digit}
use Rattle.std.specs.List.{list_all}
use Rattle.std.specs.Str.Parse.{digits_value, ParsesUnsigned}
use Rattle.plan_text.specs.PlanText.{is_miscount}
use Rattle.plan_text.specs.Written.{is_count}

abbrev pub AreDigits : List ℕ → Type 0
AreDigits ds = list_all is_ascii_digit ds ≡ true

pub own : IsNumeralModel AreDigits (digits_value 10)
own = numerals_by_value AreDigits (search rules)

pub count_digits : (ds : List ℕ) → is_count ds ≡ true → (0 < length ds) × AreDigits ds
count_digits [] is = cc
count_digits (d ∷ ds) is = (omega arith, is)

-- what is found of digits
abbrev pub Finds : List ℕ → Option ℕ → Type 0
Finds ds found = found ≡ (if is_miscount ds then None else Some (digits_value 10 ds))

miscount_at : (ds : List ℕ) (b : Bool) → is_miscount ds ≡ b → (found : Option ℕ) → found ≡ (if b then None else Some (digits_value 10 ds)) → Finds ds found
miscount_at ds b is found so = so ∙ ap (λ (t : Bool). if t then None else Some (digits_value 10 ds)) (sym is)

pub zero_refused : (ds : List ℕ) → get_or ds 0 0 ≡ 48 → Finds ds None
unfolding is_miscount
zero_refused ds zero =
    let test : (slice_index ds 0 == 48) ≡ true = grind (arith, nat_tests) in
    miscount_at ds true (ap (λ (t : Bool). t || nat_le (2 ^ 127) (digits_value 10 ds)) test) None refl

large_test : (b : Bool) (v : ℕ) → 2 ^ 127 ≤ v → (b || nat_le (2 ^ 127) v) ≡ true
large_test b v large = grind (arith, nat_tests)

pub large_refused : (ds : List ℕ) → 2 ^ 127 ≤ digits_value 10 ds → Finds ds None
unfolding is_miscount
large_refused ds large = miscount_at ds true (large_test (slice_index ds 0 == 48) (digits_value 10 ds) large) None refl

small_test : (b v : ℕ) → b ≢ 48 → v < 2 ^ 127 → (b == 48 || nat_le (2 ^ 127) v) ≡ false
small_test b v other small = grind (arith, nat_tests)

pub small_taken : (ds : List ℕ) (n : ℕ) → get_or ds 0 0 ≢ 48 → n ≡ digits_value 10 ds → n < 2 ^ 127 → Finds ds (Some n)
unfolding is_miscount
small_taken ds n other is small = miscount_at ds false (small_test (slice_index ds 0) (digits_value 10 ds) other (omega (arith, is, small))) (Some n) (ap Some is)

pub parsed_value : {E : Type 0} (ds : List ℕ) (r : Result ℕ E) (n : ℕ) → AreDigits ds → ParsesUnsigned 128 10 ds r → r ≡ Ok n → n ≡ digits_value 10 ds
parsed_value {E = E} ds r n digits parses is = (parse_digits own {E = E} 128 ds (Ok n) (subst (ParsesUnsigned {E = E} 128 10 ds) is parses) digits).1

pub unparsed_large : {E : Type 0} (ds : List ℕ) (r : Result ℕ E) (e : E) → 0 < length ds → AreDigits ds → ParsesUnsigned 128 10 ds r → r ≡ Err e → 2 ^ 127 ≤ digits_value 10 ds
unparsed_large {E = E} ds r e some digits parses is =
    let no = parse_digits own {E = E} 128 ds (Err e) (subst (ParsesUnsigned {E = E} 128 10 ds) is parses) digits in
    elim (cases_lt (digits_value 10 ds) (2 ^ 127)) [
      | inl small ↦ absurd (no (some, omega (arith, small)))
      | inr large ↦ large
    ]
