-- What an evaluation meets (this project).
use Rattle.std.specs.Prelude.{◌^◌, Bool, nat_le, ℤ, unsigned_abs, Option, Some, None, Result, Ok, Err, if◌then◌else◌}
use Rattle.std.specs.List.{list_any}
use Rattle.rational.specs.Fraction.{Fraction}
use Rattle.frac128.specs.Operations.{named_numbers, value_of}
use Rattle.frac128.specs.declared.operations.Op.{Op}
use Rattle.frac128.specs.declared.operations.Wide.{Wide}

-- a value, a part that has none, or an operation that passes 128 bits
pub data Met (A : Type 0) : Type 0 where
  found : A → Met A
  lacks : Met A
  passes : Wide → Met A

-- what follows where a value is found
abbrev pub and_then : {A B : Type 0} → Met A → (A → Met B) → Met B
and_then (found a) next = next a
and_then lacks next = lacks
and_then (passes w) next = passes w

abbrev pub is_past : ℤ → Bool
is_past z = nat_le (2 ^ 127) (unsigned_abs z)

-- some number that the operation names is past 128 bits
unfoldable pub passes_128 : Op → Fraction → Fraction → Bool
passes_128 op x y = list_any is_past (named_numbers op x y)

abbrev pub wide : Op → Fraction → Fraction → Wide
wide op x y = record { op = op; x = x; y = y }

-- an operation on two values
abbrev pub operated : Op → Fraction → Fraction → Met Fraction
operated op x y = if passes_128 op x y then passes (wide op x y) else found (value_of op x y)

abbrev pub value_or_none : {A : Type 0} → Option A → Met A
value_or_none None = lacks
value_or_none (Some x) = found x

-- what the code's answers say was met
abbrev pub met_of : {A : Type 0} → Result (Option A) Wide → Met A
met_of (Ok None) = lacks
met_of (Ok (Some x)) = found x
met_of (Err w) = passes w

abbrev pub met_of_value : {A : Type 0} → Result A Wide → Met A
met_of_value (Ok x) = found x
met_of_value (Err w) = passes w
