-- The value of a literal under a trail.
use Rattle.std.specs.Prelude.{Bool, true, false, List, length, Option, Some, None}
use Rattle.formula.specs.declared.atom.Lit.{Lit}
use Rattle.formula.specs.Reading.{opposite}
use Rattle.clause_trail.specs.declared.trail.Entry.{Entry}
use Rattle.clause_trail.specs.Standing.{Before, IsFree}
use Rattle.clause_trail.specs.Scanning.{IsTrueLit}

abbrev pub ValueHolds : List Entry → Lit → Option Bool → Type 0
ValueHolds entries l (Some true) = IsTrueLit entries l
ValueHolds entries l (Some false) = Before entries (length entries) (opposite l)
ValueHolds entries l None = IsFree entries l.boolean
