-- Clauses as words: literals whose Booleans rise strictly.
use Rattle.std.specs.Prelude.{ℕ, Bool, true, not, ◌&&◌, ◌||◌, ◌==◌, length, nat_lt, List, [], ◌∷◌, Option, Some, None, Result, Err, if◌then◌else◌}
use Rattle.std.specs.Option.{option_map}
use Rattle.std.specs.Str.Parse.{starts_with_minus}
use Rattle.formula.specs.declared.atom.Lit.{Lit}
use Rattle.cert_lines.specs.Pieces.{Piece}
use Rattle.cert_lines.specs.Spelled.{value, from_one, unsigned, is_number, is_literal, is_mark}
use Rattle.cert_lines.specs.Marks.{in_front}
use Rattle.cert_lines.specs.Found.{Fault, or_fault, misshapen, out_of_range, each}

-- ---- the form

-- there is no last number, or it is one
abbrev pub is_last : List ℕ → Bool
is_last last = length last == 0 || is_number last

-- the number is above the last one, where there is one
abbrev pub is_above : List ℕ → List ℕ → Bool
is_above [] digits = true
is_above (c ∷ cs) digits = nat_lt (value (c ∷ cs)) (value digits)

-- the word is a literal of a Boolean above the last one
abbrev pub may_follow : List ℕ → Piece → Bool
may_follow last p = is_literal p.bytes && is_above last (unsigned p.bytes)

-- the words behind a clause and the `;` that ends it, where its literals rise
abbrev pub behind_clause_from : List ℕ → List Piece → Option (List Piece)
behind_clause_from last [] = None
behind_clause_from last (p ∷ ps) = if is_mark p.bytes then Some ps else (if may_follow last p then behind_clause_from (unsigned p.bytes) ps else None)

abbrev pub behind_clause : List Piece → Option (List Piece)
behind_clause ps = behind_clause_from [] ps

-- all words are literals that rise
abbrev pub are_rising_from : List ℕ → List Piece → Bool
are_rising_from last [] = true
are_rising_from last (p ∷ ps) = may_follow last p && are_rising_from (unsigned p.bytes) ps

abbrev pub are_rising : List Piece → Bool
are_rising ps = are_rising_from [] ps

-- ---- what they spell

abbrev pub literal_with : Bool → ℕ → Lit
literal_with negative n = record { boolean = n; pos = not negative }

abbrev pub literal_at : Piece → Result Lit Fault
literal_at p =
    if is_literal p.bytes then or_fault (out_of_range p.at) (option_map (literal_with (starts_with_minus p.bytes)) (from_one (value (unsigned p.bytes))))
    else Err (misshapen p.at)

-- up to the `;`, or to the end of the line
abbrev pub clause_at : List Piece → Result (List Lit) Fault
clause_at ps = each literal_at (in_front ps)
