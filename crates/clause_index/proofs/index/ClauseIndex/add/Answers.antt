use Rattle.clause_index.proofs.Listing.{listed_where}
use Rattle.clause_index.proofs.index.ClauseIndex.add.Goals as goal

pub returns-in-Some-clause-added : goal.returns-in-Some-clause-added
returns-in-Some-clause-added c = listed_where c.put.result c.put.new.self c.args.number c.args.clause.now c.in-Some.lit c.in-Some.ensures c.put.ensures.there
