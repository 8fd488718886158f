-- Faults that are no part of a syntax.
use Rattle.std.specs.Prelude.{List, [], ◌∷◌}
use Rattle.pddl_form.specs.declared.fault.Fault.{Fault}
use Rattle.pddl_form.specs.Judged.{Judged, good, bad, behind}

-- what stands there, with these faults beside those of its own
abbrev pub beside : {A : Type 0} → List Fault → Judged A → Judged A
beside [] j = j
beside (f ∷ more) j = behind f more j

-- a test with these faults
abbrev pub tested : List Fault → Judged (Unit {0})
tested [] = good tt
tested (f ∷ more) = bad f more
