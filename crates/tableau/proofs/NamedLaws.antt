-- What an operation answers, in the shut words.
use Rattle.std.proofs.Common.{Result, Ok, Err}
use Rattle.rational.specs.Fraction.{Fraction}
use Rattle.frac128.specs.Operations.{Answers}
use Rattle.frac128.specs.declared.operations.Op.{Op}
use Rattle.frac128.specs.declared.operations.Wide.{Wide}
use Rattle.tableau.specs.Named.{FitsAt, PassesAt, Gives}

pub gives : (op : Op) (x y : Fraction) (r : Result Fraction Wide) → Answers op x y r → Gives (record { op = op; x = x; y = y }) r
unfolding FitsAt PassesAt
gives op x y (Ok v) h = h
gives op x y (Err w) h = (h.1, h.0)
