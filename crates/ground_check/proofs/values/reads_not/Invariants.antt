use Rattle.std.proofs.Common.{◌≢◌, take}
use Rattle.std.specs.List.{All}
use Rattle.ground_check.proofs.values.reads_not.Given as goal

-- none of the terms so far
abbrev pub invariant-loop-i : goal.invariant-loop-i
invariant-loop-i l = All (λ t. t.0 ≢ l.f) (take l.i l.l.terms)
