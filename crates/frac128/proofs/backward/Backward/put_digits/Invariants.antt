use Rattle.std.proofs.Common.{◌≡◌, ◌++◌}
use Rattle.frac128.specs.Text.{digits}
use Rattle.frac128.proofs.backward.Backward.put_digits.Given as goal

-- the digits of the rest, before what is written, are the whole text
abbrev pub invariant-loop-rest : goal.invariant-loop-rest
invariant-loop-rest l = digits l.rest ++ l.self ≡ digits l.n ++ l.initial.self

abbrev pub decreases-loop-rest : goal.decreases-loop-rest
decreases-loop-rest l = l.rest
