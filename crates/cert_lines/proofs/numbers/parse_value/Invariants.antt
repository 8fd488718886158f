use Rattle.std.proofs.Common.{◌≡◌, ◌<◌, ◌^◌, drop}
use Rattle.std.specs.Str.Parse.{digits_value_after}
use Rattle.cert_lines.specs.Spelled.{value}
use Rattle.cert_lines.proofs.numbers.parse_value.Given as goal

-- the rest of the digits, after the value so far, make the whole number
abbrev pub invariant-loop-digit : goal.invariant-loop-digit
invariant-loop-digit l = (l.value < 2 ^ 127) × (digits_value_after 10 l.value (drop l.digit-index l.digits) ≡ value l.digits)
