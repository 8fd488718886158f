use Rattle.std.proofs.Common.{arith}
use Rattle.tableau.proofs.TableFacts.{width_is}
use Rattle.tableau.proofs.tableau.Tableau.width.Goals as goal

pub returns-clause-value : goal.returns-clause-value
returns-clause-value c = omega (arith, c.len.ensures, c.self.inside.basic.ok.0, width_is c.self.inside c.self.invariant _ c.self.view_is)
