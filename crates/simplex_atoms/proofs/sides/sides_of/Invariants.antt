use Rattle.std.proofs.Common.{◌≡◌, take, map}
use Rattle.simplex_atoms.specs.Sides.{sides_where}
use Rattle.simplex_atoms.proofs.sides.sides_of.Given as goal

abbrev pub invariant-loop-b : goal.invariant-loop-b
invariant-loop-b l = l.sides.items ≡ map (sides_where l.formula.counts l.rows) (take l.b l.formula.atoms)
