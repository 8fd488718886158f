-- What words are and what they spell: numbers, literals, fractions, truths, names (this project's certificates).
use Rattle.std.specs.Prelude.{ℕ, ◌-◌, ◌^◌, Bool, false, not, ◌&&◌, ◌||◌, ◌==◌, nat_le, nat_lt, List, [], ◌∷◌, length, take, drop, slice_index, bytes_eq, Option, Some, None, if◌then◌else◌}
use Rattle.std.specs.Char.{is_ascii_digit, to_ascii_lowercase}
use Rattle.std.specs.List.{list_all}
use Rattle.std.specs.Str.Parse.{digits_value, starts_with_minus}
use Rattle.sexpr.specs.Bytes.{is_in_word}

-- ---- numbers

-- digits; no number but 0 begins with a zero
abbrev pub is_number : List ℕ → Bool
is_number [] = false
is_number (c ∷ cs) = (is_ascii_digit c && list_all is_ascii_digit cs) && (length cs == 0 || not (c == 48))

abbrev pub value : List ℕ → ℕ
value digits = digits_value 10 digits

-- a number that is shown from 1 and stands for one from 0; it is at most 2^63 - 1
unfoldable pub from_one : ℕ → Option ℕ
from_one v = if nat_le 1 v && nat_lt v (2 ^ 63) then Some (v - 1) else None

-- a number that is shown as it is
unfoldable pub from_zero : ℕ → Option ℕ
from_zero v = if nat_lt v (2 ^ 63) then Some v else None

-- how often a plan repeats a step: from 1 to 2^127 - 1
unfoldable pub is_plan_count : ℕ → Bool
is_plan_count v = nat_le 1 v && nat_lt v (2 ^ 127)

-- ---- literals: the number of the Boolean, with `-` before a negative one

abbrev pub unsigned : List ℕ → List ℕ
unsigned word = drop (if starts_with_minus word then 1 else 0) word

abbrev pub is_literal : List ℕ → Bool
is_literal word = is_number (unsigned word)

-- ---- other words

abbrev pub is_mark : List ℕ → Bool
is_mark word = bytes_eq word (59 ∷ [])

-- a word of a text stands in the place of a fraction
abbrev pub is_text_word : List ℕ → Bool
is_text_word [] = false
is_text_word (b ∷ bytes) = is_in_word b && list_all is_in_word bytes

abbrev pub is_truth_digit : ℕ → Bool
is_truth_digit b = b == 48 || b == 49

-- one digit or more, each 0 or 1
abbrev pub are_truths : List ℕ → Bool
are_truths [] = false
are_truths (b ∷ bytes) = is_truth_digit b && list_all is_truth_digit bytes

-- ---- names

abbrev pub is_name_byte : ℕ → Bool
is_name_byte b = is_in_word b && to_ascii_lowercase b == b

-- a letter or an underline
abbrev pub begins_name : ℕ → Bool
begins_name b = (nat_le 97 b && nat_le b 122) || b == 95

-- a name of a task, in lower case
abbrev pub is_name : List ℕ → Bool
is_name [] = false
is_name (b ∷ bytes) = begins_name b && list_all is_name_byte bytes

-- a name with the closing parenthesis behind it
abbrev pub is_last_name : List ℕ → Bool
is_last_name word = is_name (take (length word - 1) word) && slice_index word (length word - 1) == 41
