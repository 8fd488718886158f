use Rattle.std.proofs.Common.{◌≡◌, length, List, drop}
use Rattle.formula.specs.declared.atom.Lit.{Lit}
use Rattle.clause_units.specs.Truth.{Tells}
use Rattle.clause_units.specs.Scanning.{GoesOn}
use Rattle.clause_units.proofs.units.follows.Given as goal

abbrev pub invariant-loop-i : goal.invariant-loop-i
invariant-loop-i l = record {
  long : length l.truths ≡ length l.initial.truths;
  goes : (trues : List Lit) → Tells l.initial.truths trues → GoesOn l.clauses trues l.hints l.truths (drop l.i l.hints);
}
