use Rattle.std.proofs.Common.{◌≡◌, ℕ, ◌<◌, false, List, Some, length}
use Rattle.std.specs.Prelude.{slice_get}
use Rattle.formula.specs.declared.atom.Lit.{Lit}
use Rattle.clause_index.specs.Places.{HasRoom, IsListed}
use Rattle.cert_check.proofs.judging.index_of.Given as goal

abbrev pub invariant-loop-number : goal.invariant-loop-number
invariant-loop-number l = record {
  room : HasRoom l.index (length l.formula.atoms);
  none : l.index.empty ≡ false;
  listed : (n : ℕ) (c : List Lit) → n < l.number → slice_get l.formula.clauses n ≡ Some c → IsListed l.index n c;
}
