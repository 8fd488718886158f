-- The digits of a number.
use Rattle.std.proofs.Common.{◌≡◌, ℕ, ◌<◌, true, List, [], ◌∷◌, length, arith}
use Rattle.std.specs.Prelude.{◌&&◌, ◌||◌, ◌==◌, not}
use Rattle.std.specs.Char.{is_ascii_digit}
use Rattle.std.specs.List.{list_all}
use Rattle.std.specs.Str.Parse.{AllDigits}
use Rattle.std.proofs.lemmas.Bool.{and_parts}
use Rattle.frac128.proofs.OneSpelling.{value_of_passing}
use Rattle.cert_lines.specs.Spelled.{is_number}

pub all_digits : (ds : List ℕ) → list_all is_ascii_digit ds ≡ true → AllDigits 10 ds
all_digits [] all = tt
all_digits (d ∷ ds) all =
    let parts = and_parts (is_ascii_digit d) (list_all is_ascii_digit ds) all in (value_of_passing d parts.0, all_digits ds parts.1)

pub number_digits : (ds : List ℕ) → is_number ds ≡ true → AllDigits 10 ds
number_digits [] is = tt
number_digits (c ∷ cs) is = all_digits (c ∷ cs) (and_parts (is_ascii_digit c && list_all is_ascii_digit cs) (length cs == 0 || not (c == 48)) is).0

pub number_some : (ds : List ℕ) → is_number ds ≡ true → 0 < length ds
number_some [] is = cc
number_some (c ∷ cs) is = omega arith
