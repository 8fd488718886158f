-- A part as it is written, `COUNT (NAME ARG ..)` or `(NAME ARG ..)` (this project's text of a plan).
use Rattle.std.specs.Prelude.{ℕ, Bool, false, ◌&&◌, List, [], ◌∷◌, Option, Some, None, if◌then◌else◌}
use Rattle.std.specs.List.{list_all}
use Rattle.std.specs.Option.{option_map}
use Rattle.std.specs.Char.{is_ascii_digit}
use Rattle.sexpr.specs.Tokens.{Token, Open, Close, Word}
use Rattle.pddl_form.specs.declared.spot.Spot.{Spot}
use Rattle.pddl_form.specs.Names.{is_name}

-- the name of an action and of its arguments
pub record Call : Type 0 where
  pub name : Spot
  pub args : List Spot

pub record Written : Type 0 where
  pub count : Option Spot
  pub call : Call

abbrev pub spot_at : ℕ → List ℕ → Spot
spot_at place text = record { text = text; place = place }

-- one or more digits
abbrev pub is_count : List ℕ → Bool
is_count [] = false
is_count (b ∷ more) = is_ascii_digit b && list_all is_ascii_digit more

abbrev pub with_name : Spot → Option (List Spot) → Option (List Spot)
with_name spot names = option_map (λ more. spot ∷ more) names

-- names up to the closing parenthesis that ends the line
abbrev pub closed_names : List Token → Option (List Spot)
closed_names [] = None
closed_names (Open at ∷ more) = None
closed_names (Close end ∷ []) = Some []
closed_names (Close end ∷ t ∷ more) = None
closed_names (Word start end text ∷ more) = if is_name text then with_name (spot_at start text) (closed_names more) else None

-- there is at least the action's name
abbrev pub call_with : Option (List Spot) → Option Call
call_with None = None
call_with (Some []) = None
call_with (Some (name ∷ args)) = Some (record { name = name; args = args })

abbrev pub call_of : List Token → Option Call
call_of [] = None
call_of (Open at ∷ more) = call_with (closed_names more)
call_of (Close end ∷ more) = None
call_of (Word start end text ∷ more) = None

abbrev pub counted : Option Spot → Option Call → Option Written
counted count call = option_map (λ c. record { count = count; call = c }) call

-- a part after a word that is its count
abbrev pub after_count : ℕ → List ℕ → List Token → Option Written
after_count start text more = if is_count text then counted (Some (spot_at start text)) (call_of more) else None

-- the part that is written by the words and parentheses of a line, where they are of one of the two forms
abbrev pub written : List Token → Option Written
written [] = None
written (Open at ∷ more) = counted None (call_of (Open at ∷ more))
written (Close end ∷ more) = None
written (Word start end text ∷ more) = after_count start text more
