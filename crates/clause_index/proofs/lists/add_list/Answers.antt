use Rattle.clause_index.proofs.Staying.{pushed_stay}
use Rattle.clause_index.proofs.lists.add_list.Goals as goal

pub returns-clause-stay : goal.returns-clause-stay
returns-clause-stay c = pushed_stay c.args.lists.now.items c.push.new.self.items c.new.result c.in_ok-push.ensures.items
