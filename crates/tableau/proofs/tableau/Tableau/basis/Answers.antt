use Rattle.std.proofs.Common.{◌∙◌}
use Rattle.tableau.proofs.TableFacts.{basis_is}
use Rattle.tableau.proofs.tableau.Tableau.basis.Goals as goal

pub returns : goal.returns
returns c = c.deref.ensures.value ∙ basis_is c.self.inside c.self.invariant c.args.self.now c.self.view_is
