-- What an action has to be, of which only atoms and functions of its task are known.
use Rattle.std.specs.Prelude.{Bool, List, [], Option}
use Rattle.rational.specs.Fraction.{Fraction}
use Rattle.task_core.specs.declared.action.GAction.{GAction}
use Rattle.task_core.specs.Task.{GroundParts, idle, IsActionOf}

abbrev pub parts_of : List Bool → List (Option Fraction) → GroundParts
parts_of atoms funcs = record { atoms = atoms; funcs = funcs; actions = []; goal = idle }

abbrev pub IsActionIn : List Bool → List (Option Fraction) → GAction → Type 0
IsActionIn atoms funcs a = IsActionOf (parts_of atoms funcs) a
