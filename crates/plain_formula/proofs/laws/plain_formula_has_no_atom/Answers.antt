use Rattle.plain_formula.proofs.Named.{plain_has_no_atom}
use Rattle.plain_formula.proofs.laws.plain_formula_has_no_atom.Goals as goal

pub returns : goal.returns
returns c = plain_has_no_atom
