-- How a fraction is written, `n` or `n/d`, and what a reader of such texts answers.
use Rattle.std.specs.Prelude.{◌≡◌, ◌≢◌, ℕ, zero, suc, ◌+◌, ◌<◌, ◌≤◌, ◌^◌, Bool, ◌==◌, if◌then◌else◌, IsTrue, List, [], ◌∷◌, ◌++◌, map, length, slice_index, ℤ, pos, negsuc, neg_ℤ, unsigned_abs, Option, Some, None, Result, Ok, Err, IfSome, ◌⊎◌, ⊤}
use Rattle.std.specs.Int.Digits.{digits_of}
use Rattle.std.specs.Fmt.{sign_text}
use Rattle.std.specs.Str.Parse.{IsNumeral, digits_value}
use Rattle.algebra.specs.Gcd.{gcd}
use Rattle.rational.specs.Fraction.{Fraction}
use Rattle.frac128.specs.Bounds.{IsFrac}
use Rattle.frac128.specs.declared.text.NumFault.{NumFault}
use Rattle.frac128.specs.declared.text.NumFault.TheVariants.{Form, Wide}

-- ---- writing

-- the decimal digits of a number, in ASCII
unfoldable pub digits : ℕ → List ℕ
digits zero = 48 ∷ []
digits (suc n) = map (λ d. 48 + d) (digits_of 10 (suc n))

abbrev pub number_text : ℤ → List ℕ
number_text (pos n) = digits n
number_text (negsuc n) = 45 ∷ digits (suc n)

-- `n`, or `n/d` where d is 2 or more
abbrev pub text_of : Fraction → List ℕ
text_of x = number_text x.num ++ (if x.den == 1 then [] else 47 ∷ digits x.den)

-- ---- reading

-- the parts of a text: a sign, digits, and other digits behind a mark, where it has them
pub record Spelling : Type 0 where
  pub negative : Bool
  pub top : List ℕ
  pub bottom : Option (List ℕ)

abbrev pub behind : ℕ → Option (List ℕ) → List ℕ
behind mark None = []
behind mark (Some ds) = mark ∷ ds

-- the text is an optional `-`, digits, and optionally the mark and digits
pub record Spells (mark : ℕ) (text : List ℕ) (s : Spelling) : Type 0 where
  pub whole : text ≡ sign_text s.negative ++ (s.top ++ behind mark s.bottom)
  pub top : IsNumeral 10 s.top
  pub bottom : IfSome s.bottom (IsNumeral 10)

-- only `0` starts with 0
abbrev pub IsPlain : List ℕ → Type 0
IsPlain ds = slice_index ds 0 ≡ 48 → length ds ≡ 1

-- the digits in front are plain, and aren't `0` after a `-`
pub record IsNumerator (negative : Bool) (ds : List ℕ) : Type 0 where
  pub plain : IsPlain ds
  pub sign : IsTrue negative → ds ≢ 48 ∷ []

-- the digits behind the mark are plain and make 2 or more
abbrev pub IsDenominator : Option (List ℕ) → Type 0
IsDenominator None = ⊤
IsDenominator (Some ds) = IsPlain ds × (2 ≤ digits_value 10 ds)

-- the form of a fraction: no number but `0` starts with 0, no text starts with `-0`, and the denominator is 2 or more
pub record IsFractionText (text : List ℕ) (s : Spelling) : Type 0 where
  pub spells : Spells 47 text s
  pub top : IsNumerator s.negative s.top
  pub bottom : IsDenominator s.bottom

abbrev pub top_value : Spelling → ℕ
top_value s = digits_value 10 s.top

abbrev pub signed : Bool → ℕ → ℤ
signed negative n = if negative then neg_ℤ (pos n) else pos n

-- a text without a mark has the denominator 1
abbrev pub value_behind : Option (List ℕ) → ℕ
value_behind None = 1
value_behind (Some ds) = digits_value 10 ds

-- one of the numbers is past the bound
abbrev pub HasPast : Spelling → Type 0
HasPast s = (2 ^ 127 ≤ top_value s) ⊎ (2 ^ 127 ≤ value_behind s.bottom)

-- both are within the bound
abbrev pub NonePast : Spelling → Type 0
NonePast s = (top_value s < 2 ^ 127) × (value_behind s.bottom < 2 ^ 127)

abbrev pub IsReducedText : Spelling → Type 0
IsReducedText s = gcd (top_value s) (value_behind s.bottom) ≡ 1

-- a fraction where the text is that fraction's; `Wide` where the text is of the form and has a number past the bound;
-- `Form` where it isn't of the form, or no number is past and the quotient isn't in lowest terms
abbrev pub ReadsFraction : List ℕ → Result Fraction NumFault → Type 0
ReadsFraction text (Ok x) = (text ≡ text_of x) × IsFrac x
ReadsFraction text (Err Wide) = (s : Spelling) × IsFractionText text s × HasPast s
ReadsFraction text (Err Form) =
    ((s : Spelling) → IsFractionText text s → ⊥) ⊎ ((s : Spelling) × IsFractionText text s × NonePast s × (IsReducedText s → ⊥))

-- the fraction of two numbers in lowest terms
abbrev pub MakesReduced : ℤ → ℤ → Result Fraction NumFault → Type 0
MakesReduced n d (Ok x) = (x.num ≡ n) × (pos x.den ≡ d)
MakesReduced n d (Err Form) = gcd (unsigned_abs n) (unsigned_abs d) ≢ 1
MakesReduced n d (Err Wide) = ⊥
