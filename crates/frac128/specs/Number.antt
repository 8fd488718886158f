-- Which number a decimal text spells, if any: the text is cut behind its sign and behind its first digits.
use Rattle.std.specs.Prelude.{ℕ, ◌^◌, Bool, true, false, ◌&&◌, ◌==◌, nat_lt, nat_le, if◌then◌else◌, List, [], ◌∷◌, length, take, drop, Option, Some, None, option_and_then}
use Rattle.std.specs.Char.{is_ascii_digit}
use Rattle.std.specs.List.{list_all, prefix_len}
use Rattle.std.specs.Str.Parse.{starts_with_minus}
use Rattle.rational.specs.Fraction.{Fraction, quotient}
use Rattle.frac128.specs.Text.{Spelling, signed}
use Rattle.frac128.specs.Decimal.{places, all_digits_value}

-- ---- the parts of a text

-- what stands behind the sign
abbrev pub unsigned : List ℕ → List ℕ
unsigned text = drop (if starts_with_minus text then 1 else 0) text

-- one digit or more, and nothing else
abbrev pub is_numeral : List ℕ → Bool
is_numeral ds = nat_lt 0 (length ds) && list_all is_ascii_digit ds

-- the parts, where nothing stands behind the digits in front, or the mark and other digits
abbrev pub parts_behind : ℕ → Bool → List ℕ → List ℕ → Option Spelling
parts_behind mark negative top [] = Some (record { negative = negative; top = top; bottom = None })
parts_behind mark negative top (c ∷ ds) = if c == mark && is_numeral ds then Some (record { negative = negative; top = top; bottom = Some ds }) else None

-- the parts, where a digit stands first
abbrev pub parts_of : ℕ → Bool → List ℕ → Option Spelling
parts_of mark negative text = let n = prefix_len is_ascii_digit text in if n == 0 then None else parts_behind mark negative (take n text) (drop n text)

-- the parts that a text has with this mark
unfoldable pub spelling_of : ℕ → List ℕ → Option Spelling
spelling_of mark text = parts_of mark (starts_with_minus text) (unsigned text)

-- ---- its number

-- at most 38 digits behind the point count, and all digits make a number within the bound
abbrev pub fits : Spelling → Bool
fits s = nat_le (places s) 38 && nat_lt (all_digits_value s) (2 ^ 127)

abbrev pub number_where : Bool → Spelling → Option Fraction
number_where true s = Some (quotient (signed s.negative (all_digits_value s)) (10 ^ places s))
number_where false s = None

-- the number that a text spells with a point, where that fits
unfoldable pub number_of : List ℕ → Option Fraction
number_of text = option_and_then (λ s. number_where (fits s) s) (spelling_of 46 text)
