-- Lists of numbers and of fractions as words.
use Rattle.std.specs.Prelude.{ℕ, ◌^◌, Bool, true, not, ◌&&◌, ◌||◌, ◌==◌, nat_le, nat_lt, List, length, slice_index, Option, Some, None, Result, Err, option_and_then, if◌then◌else◌}
use Rattle.std.specs.List.{list_all}
use Rattle.algebra.specs.Gcd.{gcd}
use Rattle.rational.specs.Fraction.{Fraction, quotient}
use Rattle.frac128.specs.Text.{Spelling, signed, top_value, value_behind}
use Rattle.frac128.specs.Number.{spelling_of}
use Rattle.cert_lines.specs.Pieces.{Piece}
use Rattle.cert_lines.specs.Spelled.{value, from_one, is_number}
use Rattle.cert_lines.specs.Marks.{in_front}
use Rattle.cert_lines.specs.Found.{Fault, or_fault, misshapen, out_of_range, misnumbered, each}

-- ---- numbers

abbrev pub are_numbers : List Piece → Bool
are_numbers ps = list_all (λ p. is_number p.bytes) ps

abbrev pub number_at : Piece → Result ℕ Fault
number_at p = if is_number p.bytes then or_fault (out_of_range p.at) (from_one (value p.bytes)) else Err (misshapen p.at)

abbrev pub numbers_at : List Piece → Result (List ℕ) Fault
numbers_at ps = each number_at ps

-- ---- fractions

-- no number but 0 begins with a zero
abbrev pub is_plain : List ℕ → Bool
is_plain ds = length ds == 1 || not (slice_index ds 0 == 48)

abbrev pub is_denominator : Option (List ℕ) → Bool
is_denominator None = true
is_denominator (Some ds) = is_plain ds && nat_le 2 (value ds)

-- the parts of a fraction's text: `-0` isn't one, and a denominator is 2 or more
abbrev pub has_fraction_form : Spelling → Bool
has_fraction_form s = (is_plain s.top && not (s.negative && slice_index s.top 0 == 48)) && is_denominator s.bottom

-- both numbers are below 2^127, and they have no common divisor
unfoldable pub is_in_lowest_terms : Spelling → Bool
is_in_lowest_terms s = (nat_lt (top_value s) (2 ^ 127) && nat_lt (value_behind s.bottom) (2 ^ 127)) && gcd (top_value s) (value_behind s.bottom) == 1

abbrev pub fraction_by : Spelling → Option Fraction
fraction_by s = if has_fraction_form s && is_in_lowest_terms s then Some (quotient (signed s.negative (top_value s)) (value_behind s.bottom)) else None

-- the fraction that a text spells, `n` or `n/d`, if any
unfoldable pub fraction_of : List ℕ → Option Fraction
fraction_of text = option_and_then fraction_by (spelling_of 47 text)

abbrev pub fraction_at : Piece → Result Fraction Fault
fraction_at p = or_fault (misnumbered p.at) (fraction_of p.bytes)

-- up to the next `;`, or to the end of the line
abbrev pub fractions_at : List Piece → Result (List Fraction) Fault
fractions_at ps = each fraction_at (in_front ps)
