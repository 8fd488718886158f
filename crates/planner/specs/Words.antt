-- The words of a command: the names of the two files, and then options with a value each, in any order and none twice.
use Rattle.std.specs.Prelude.{ℕ, ◌≤◌, Bool, ◌&&◌, nat_le, nat_lt, if◌then◌else◌, List, [], ◌∷◌, length, Option, Some, None, option_and_then, unwrap_or, String, string_bytes, bytes_eq, codes, ⊤}
use Rattle.std.specs.Option.{option_map}
use Rattle.std.specs.Char.{is_ascii_digit}
use Rattle.std.specs.List.{list_all}
use Rattle.std.specs.Str.Parse.{digits_value}
use Rattle.std.specs.declared.alloc.Global.{Global}
use Rattle.patty_run.specs.declared.input.Input.TheVariants as input
use Rattle.patty_run.specs.Inputs.{InputFile, input_file}
use Rattle.planner_text.specs.declared.limits.Limits.{Limits}
use Rattle.planner.specs.declared.words.Given.{Given}

-- ---- values: one to eight digits

abbrev pub is_short_numeral : List ℕ → Bool
is_short_numeral digits = nat_lt 0 (length digits) && (nat_le (length digits) 8 && list_all is_ascii_digit digits)

abbrev pub number : List ℕ → Option ℕ
number text = if is_short_numeral text then Some (digits_value 10 text) else None

abbrev pub within : ℕ → ℕ → Option ℕ → Option ℕ
within least most None = None
within least most (Some n) = if nat_le least n && nat_le n most then Some n else None

-- the number in its range, where none was given before
abbrev pub once : Option ℕ → List ℕ → ℕ → ℕ → Option ℕ
once None text least most = within least most (number text)
once (Some before) text least most = None

-- ---- options

abbrev pub with_max_n : Given → ℕ → Given
with_max_n g n = record { max_n = Some n; steps = g.steps; pivots = g.pivots }

abbrev pub with_steps : Given → ℕ → Given
with_steps g n = record { max_n = g.max_n; steps = Some n; pivots = g.pivots }

abbrev pub with_pivots : Given → ℕ → Given
with_pivots g n = record { max_n = g.max_n; steps = g.steps; pivots = Some n }

abbrev pub with_option : Given → List ℕ → List ℕ → Option Given
with_option g name value =
    if bytes_eq name (codes "--max-n") then option_map (with_max_n g) (once g.max_n value 0 1000)
    else (if bytes_eq name (codes "--steps") then option_map (with_steps g) (once g.steps value 1 10000000)
    else (if bytes_eq name (codes "--pivots") then option_map (with_pivots g) (once g.pivots value 1 10000000) else None))

abbrev pub with_options : Given → List (String Global) → Option Given
with_options g [] = Some g
with_options g (name ∷ []) = None
with_options g (name ∷ value ∷ more) = option_and_then (λ h. with_options h more) (with_option g (string_bytes name) (string_bytes value))

abbrev pub nothing_given : Given
nothing_given = record { max_n = None; steps = None; pivots = None }

abbrev pub limits_with : Given → Limits
limits_with g = record { max_n = unwrap_or g.max_n 20; steps = unwrap_or g.steps 100000; pivots = unwrap_or g.pivots 1000000 }

abbrev pub limits_of : List (String Global) → Option Limits
limits_of options = option_map limits_with (with_options nothing_given options)

-- ---- commands

-- the limits of a command; those of a command that isn't right are never asked for
abbrev pub limits_in : List (String Global) → Limits
limits_in (domain ∷ problem ∷ options) = unwrap_or (limits_of options) (limits_with nothing_given)
limits_in words = limits_with nothing_given

abbrev pub named_where : Option Limits → String Global → String Global → Option (List InputFile)
named_where None domain problem = None
named_where (Some limits) domain problem = Some (input_file input.Domain (string_bytes domain) ∷ input_file input.Problem (string_bytes problem) ∷ [])

-- the files of the domain and of the problem, where the words are right
abbrev pub files_of : List (String Global) → Option (List InputFile)
files_of (domain ∷ problem ∷ options) = named_where (limits_of options) domain problem
files_of words = None

-- ---- for the clauses of private functions: the greatest number of copies is in its range

abbrev pub IsLowAt : Option ℕ → Type 0
IsLowAt None = ⊤
IsLowAt (Some n) = n ≤ 1000

abbrev pub IsLow : Given → Type 0
IsLow g = IsLowAt g.max_n
