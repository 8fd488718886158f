-- The operations that are named, shut: whether each number of one fits, or one passes, and what it gives. The words are
-- shut so that a clause over many operations stays short.
use Rattle.std.specs.Prelude.{◌≡◌, Result, Ok, Err}
use Rattle.rational.specs.Fraction.{Fraction}
use Rattle.frac128.specs.Operations.{Fits, Passes, value_of}
use Rattle.frac128.specs.declared.operations.Wide.{Wide}

unfoldable pub FitsAt : Wide → Type 0
FitsAt w = Fits w.op w.x w.y

unfoldable pub PassesAt : Wide → Type 0
PassesAt w = Passes w.op w.x w.y

-- the value where w fits, and w where it passes
abbrev pub Gives : Wide → Result Fraction Wide → Type 0
Gives w (Ok x) = FitsAt w × (x ≡ value_of w.op w.x w.y)
Gives w (Err v) = (v ≡ w) × PassesAt w
