use Rattle.std.proofs.Common.{◌≡◌}
use Rattle.formula.specs.Reading.{opposite}
use Rattle.bound_theory.proofs.Clashes.{same_lit, clash_is}
use Rattle.bound_theory.proofs.theory.Bounds.clash.Goals as goal

pub returns : goal.returns
returns c = λ full point.
    let first : c.opposite.result ≡ opposite c.args.found.upper = same_lit c.opposite.result (opposite c.args.found.upper) c.opposite.ensures.boolean c.opposite.ensures.pos in
    let second : c.opposite-2.result ≡ opposite c.args.found.lower = same_lit c.opposite-2.result (opposite c.args.found.lower) c.opposite-2.ensures.boolean c.opposite-2.ensures.pos in
    clash_is c.args.self.now.formula.counts c.args.self.now.formula.atoms c.args.self.now.asserted.events c.args.found c.opposite.result c.opposite-2.result c.in_ok-clause.clause c.in_ok-why.why c.requires first second c.in_ok-clause.ensures
