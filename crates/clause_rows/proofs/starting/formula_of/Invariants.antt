use Rattle.std.proofs.Common.{◌≡◌, Some, true}
use Rattle.std.specs.List.{slice_get}
use Rattle.clause_rows.proofs.starting.formula_of.Given as goal

abbrev pub invariant-loop-letter : goal.invariant-loop-letter
invariant-loop-letter l = slice_get l.formula.counts 0 ≡ Some true
