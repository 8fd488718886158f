use Rattle.clause_index.proofs.Staying.{same_stays, more_stays, more_there}
use Rattle.clause_index.proofs.lists.put_at.Goals as goal

pub returns-in_err-push-clause-stay : goal.returns-in_err-push-clause-stay
returns-in_err-push-clause-stay c = same_stays c.args.lists.now.items c.args.place c.index_mut.result.now c.push.new.self c.requires c.index_mut.ensures.value c.in_err-push.ensures.items

pub returns-clause-stay : goal.returns-clause-stay
returns-clause-stay c = more_stays c.args.lists.now.items c.args.place c.index_mut.result.now c.push.new.self c.requires c.index_mut.ensures.value c.args.number c.in_ok-push.ensures.items

pub returns-clause-there : goal.returns-clause-there
returns-clause-there c = more_there c.args.lists.now.items c.args.place c.index_mut.result.now c.push.new.self c.requires c.index_mut.ensures.value c.args.number c.in_ok-push.ensures.items
