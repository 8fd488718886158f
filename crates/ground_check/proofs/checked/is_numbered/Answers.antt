use Rattle.std.proofs.Common.{◌<◌, length}
use Rattle.ground_check.proofs.Parts.{all_numbers}
use Rattle.ground_check.proofs.checked.is_numbered.Goals as goal

pub returns-then-has_atoms_below : goal.returns-then-has_atoms_below
returns-then-has_atoms_below c e = record {
  lits = all_numbers (λ p. p < length c.args.atoms.now) c.args.a.now.lits (c.has_atoms_below.ensures.lits c.if-has_atoms_below.true);
  adds = c.has_atoms_below.ensures.adds c.if-has_atoms_below.true;
  dels = c.has_atoms_below.ensures.dels c.if-has_atoms_below.true;
  reads = c.has_functions_below.ensures.reads e;
  sets = all_numbers (λ f. f < length c.args.funcs.now) c.args.a.now.sets (c.has_functions_below.ensures.sets e);
}
