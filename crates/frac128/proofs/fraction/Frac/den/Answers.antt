use Rattle.frac128.proofs.Parts.{den_read, within_read}
use Rattle.frac128.proofs.fraction.Frac.den.Goals as goal

pub returns-clause-value : goal.returns-clause-value
returns-clause-value c = den_read c.self.inside c.args.self.now c.self.view_is c.self.invariant

pub returns-clause-within : goal.returns-clause-within
returns-clause-within c = within_read c.self.inside.den c.self.invariant.den_bound
