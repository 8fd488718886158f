-- Bounds of variables: what they demand of a fraction, and as pairs.
use Rattle.std.specs.Prelude.{Option, Some, None, if◌then◌else◌}
use lib.IntN.{pos, negsuc}
use Rattle.rational.specs.Fraction.{Fraction, whole}
use Rattle.rational.specs.Farkas.{InOrder}
use Rattle.simplex_law.specs.Pairs.{◌≤ₚ◌, ◌<ₚ◌}
use Rattle.simplex_law.specs.declared.pair.Pair.{Pair}
use Rattle.simplex_law.specs.declared.bound.Bound.{Bound}

-- a strict lower bound is a little above its value, a strict upper one a little below
abbrev pub lower_pair : Bound → Pair
lower_pair b = record { main = b.value; small = if b.strict then whole (pos 1) else whole (pos 0) }

abbrev pub upper_pair : Bound → Pair
upper_pair b = record { main = b.value; small = if b.strict then whole (negsuc 0) else whole (pos 0) }

abbrev pub MeetsLower : Option Bound → Fraction → Type 0
MeetsLower None x = Unit {0}
MeetsLower (Some b) x = InOrder b.strict b.value x

abbrev pub MeetsUpper : Option Bound → Fraction → Type 0
MeetsUpper None x = Unit {0}
MeetsUpper (Some b) x = InOrder b.strict x b.value

abbrev pub OnLower : Option Bound → Pair → Type 0
OnLower None x = Unit {0}
OnLower (Some b) x = lower_pair b ≤ₚ x

abbrev pub OnUpper : Option Bound → Pair → Type 0
OnUpper None x = Unit {0}
OnUpper (Some b) x = x ≤ₚ upper_pair b

-- a value beyond a bound
abbrev pub BelowLower : Option Bound → Pair → Type 0
BelowLower None x = ⊥
BelowLower (Some b) x = x <ₚ lower_pair b

abbrev pub AboveUpper : Option Bound → Pair → Type 0
AboveUpper None x = ⊥
AboveUpper (Some b) x = upper_pair b <ₚ x

-- may x rise, may it fall?
abbrev pub CanRise : Option Bound → Pair → Type 0
CanRise None x = Unit {0}
CanRise (Some b) x = x <ₚ upper_pair b

abbrev pub CanFall : Option Bound → Pair → Type 0
CanFall None x = Unit {0}
CanFall (Some b) x = lower_pair b <ₚ x
