use Rattle.std.proofs.Common.{◌≡◌, take}
use Rattle.simplex_fit.proofs.copying.atoms_of.Given as goal

abbrev pub invariant-loop-b : goal.invariant-loop-b
invariant-loop-b l = l.atoms.items ≡ take l.b l.formula.atoms
