use Rattle.lin.specs.Linear.{point_of}
use Rattle.formula.proofs.Holding.{boolean_some, none_answer, some_answer}
use Rattle.formula.proofs.meeting.holds_where.Goals as goal

pub holds-requires-clause-atom : goal.holds-requires-clause-atom
holds-requires-clause-atom c = boolean_some _ _ _ c.in-Some.is c.requires.atom

pub returns-in-None : goal.returns-in-None
returns-in-None c = none_answer (point_of c.args.at.now) c.args.counts.now c.args.atom.now c.args.pos c.in-None.is

pub returns-in-Some : goal.returns-in-Some
returns-in-Some c = some_answer (point_of c.args.at.now) c.args.counts.now c.args.atom.now c.in-Some.atom c.args.pos c.holds.result c.in-Some.is c.holds.ensures
