-- Numerals of one to eight digits.
use Rattle.std.proofs.Common.{◌≡◌, ℕ, ◌<◌, ◌≤◌, ◌^◌, Bool, true, List, length, Some, None, Result, Ok, Err, refl, sym, ◌∙◌, ap, rules, arith}
use Rattle.std.proofs.lemmas.Bool.{and_parts}
use Rattle.std.proofs.lemmas.Bool.Decides.{nat_tests}
use Rattle.std.proofs.lemmas.Str.Parse.{IsNumeralModel, numerals_by_value, parse_digits, digits_value_short}
use Rattle.std.specs.Prelude.{nat_lt, nat_le, if◌then◌else◌}
use Rattle.std.specs.Char.{is_ascii_digit}
use Rattle.std.specs.List.{list_all}
use Rattle.std.specs.Str.Parse.{digits_value, ParsesUnsigned}
use Rattle.planner.specs.Words.{is_short_numeral, number}

abbrev AreDigits : List ℕ → Type 0
AreDigits ds = list_all is_ascii_digit ds ≡ true

own : IsNumeralModel AreDigits (digits_value 10)
own = numerals_by_value AreDigits (search rules)

record IsShort (ds : List ℕ) : Type 0 where
  some : 0 < length ds
  few : length ds ≤ 8
  digits : AreDigits ds

is_short : (ds : List ℕ) → is_short_numeral ds ≡ true → IsShort ds
is_short ds e =
    let p = and_parts (nat_lt 0 (length ds)) _ e in
    let q = and_parts (nat_le (length ds) 8) _ p.1 in
    let some : 0 < length ds = grind (arith, nat_tests, p.0) in
    let few : length ds ≤ 8 = grind (arith, nat_tests, q.0) in
    record { some = some; few = few; digits = q.1 }

number_is : (ds : List ℕ) → is_short_numeral ds ≡ true → number ds ≡ Some (digits_value 10 ds)
number_is ds e = ap (λ (b : Bool). if b then Some (digits_value 10 ds) else None) e

-- such a numeral is read, whatever the error of a text that isn't
pub short_parsed : {E : Type 0} (ds : List ℕ) (r : Result ℕ E) → is_short_numeral ds ≡ true → ParsesUnsigned 32 10 ds r → (n : ℕ) × (r ≡ Ok n) × (number ds ≡ Some n)
short_parsed {E = E} ds (Ok n) e parses =
    let s = is_short ds e in
    let value = (parse_digits own {E = E} 32 ds (Ok n) parses s.digits).1 in
    (n, refl, number_is ds e ∙ ap Some (sym value))
short_parsed {E = E} ds (Err why) e parses =
    let s = is_short ds e in
    let small = digits_value_short own ds 8 s.digits s.few in
    absurd (parse_digits own {E = E} 32 ds (Err why) parses s.digits (s.some, below (digits_value 10 ds) small))
  where
    below : (v : ℕ) → v < 10 ^ 8 → v < 2 ^ 32
    below v small = omega (arith, small)
