use Rattle.std.proofs.Common.{◌≡◌, drop}
use Rattle.formula.specs.Contents.{is_clause, is_clause_from}
use Rattle.cert_check.proofs.known.is_clause.Given as goal

abbrev pub invariant-loop-lit : goal.invariant-loop-lit
invariant-loop-lit l = is_clause_from l.least l.booleans (drop l.lit-index l.lits) ≡ is_clause l.booleans l.lits
