-- What a reader of decimal numbers answers: `-0.50` is -1/2.
use Rattle.std.specs.Prelude.{◌≡◌, ℕ, ◌-◌, ◌<◌, ◌≤◌, ◌^◌, ◌==◌, List, [], ◌++◌, length, take, Option, Some, None, Result, Ok, Err, ◌⊎◌}
use Rattle.std.specs.List.{suffix_len}
use Rattle.std.specs.Str.Parse.{digits_value}
use Rattle.rational.specs.Fraction.{Fraction, quotient}
use Rattle.frac128.specs.Text.{Spelling, Spells, signed}
use Rattle.frac128.specs.declared.text.NumFault.{NumFault}
use Rattle.frac128.specs.declared.text.NumFault.TheVariants.{Form, Wide}

-- digits without the zeros at their end
abbrev pub without_end_zeros : List ℕ → List ℕ
without_end_zeros ds = take (length ds - suffix_len (λ c. c == 48) ds) ds

-- the digits behind the point that count, which are none without a point
abbrev pub counted : Option (List ℕ) → List ℕ
counted None = []
counted (Some ds) = without_end_zeros ds

abbrev pub places : Spelling → ℕ
places s = length (counted s.bottom)

-- the number that all digits make
abbrev pub all_digits_value : Spelling → ℕ
all_digits_value s = digits_value 10 (s.top ++ counted s.bottom)

-- the exact value where the text is an optional `-`, digits, and optionally a point and digits; `Wide` where more than
-- 38 digits behind the point count, or all digits make a number past the bound; `Form` where the text isn't of the form
abbrev pub ReadsDecimal : List ℕ → Result Fraction NumFault → Type 0
ReadsDecimal text (Ok x) =
    (s : Spelling) × Spells 46 text s × (places s ≤ 38) × (all_digits_value s < 2 ^ 127)
    × (x ≡ quotient (signed s.negative (all_digits_value s)) (10 ^ places s))
ReadsDecimal text (Err Wide) = (s : Spelling) × Spells 46 text s × ((38 < places s) ⊎ (2 ^ 127 ≤ all_digits_value s))
ReadsDecimal text (Err Form) = (s : Spelling) → Spells 46 text s → ⊥
