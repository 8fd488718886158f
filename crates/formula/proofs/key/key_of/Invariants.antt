use Rattle.std.proofs.Common.{◌≡◌, ◌++◌, drop}
use Rattle.formula.specs.inside.Keys.{terms_key, key_of}
use Rattle.formula.proofs.key.key_of.Given as goal

abbrev pub invariant-loop-i : goal.invariant-loop-i
invariant-loop-i l = key_of l.a ≡ l.key.items ++ terms_key (drop l.i l.a.lin.terms)
