use Rattle.std.proofs.Common.{◌≡◌, true}
use Rattle.formula.specs.Atoms.{is_one_count}
use Rattle.formula.proofs.Readings.{atom_is, read_atom}
use Rattle.bound_theory.proofs.BoundLaws.{is_bound}
use Rattle.bound_theory.proofs.bound.bound_of.Goals as goal

pub returns : goal.returns
returns c =
    let at = c.in_ok-atom.ensures.value in
    let one : is_one_count c.args.formula.now.counts c.in_ok-atom.atom.now.lin.terms ≡ true = cc in
    is_bound c.args.formula.now.counts c.args.formula.now.atoms c.args.lit.boolean c.in_ok-atom.atom.now c.term.result at
    (atom_is c.args.formula.now c.args.lit.boolean c.in_ok-atom.atom.now c.in_ok-atom.ensures.formula (read_atom c.args.formula.now c.args.lit.boolean _ at)) one c.term.ensures
