use Rattle.std.proofs.lemmas.Result.{err_from_is_err_and}
use Rattle.ground_entry.proofs.Acting.{going-next, going-refused}
use Rattle.ground_entry.proofs.action.walk_lists.Goals as goal

pub returns-in_err-walk_instance : goal.returns-in_err-walk_instance
returns-in_err-walk_instance c =
    let p = err_from_is_err_and c.from_residual-in_err-walk_instance.result c.from_residual-in_err-walk_instance.ensures.1 in
    rw (p.1, p.2) (going-refused c.args.search.now.task.now c.args.limit c.args.number c.args.search.now.action.now c.args.walk.now c.instances.walk c.instances.found c.instances.args c.instances.invariant c.instances-test.true
    _ c.in_err-walk_instance.ensures)

pub next-requires-clause-suits : goal.next-requires-clause-suits
next-requires-clause-suits c = c.instances.invariant.suiting c.instances-test.true

pub instances-preserved : goal.instances-preserved
instances-preserved c =
    going-next c.args.search.now.task.now c.args.limit c.args.number c.args.search.now.action.now c.args.walk.now c.instances.walk c.instances.found c.instances.args c.instances.invariant c.instances-test.true
    c.walk_instance.new.walk c.in_ok-found-2.found c.next.new.args c.next.auto.args c.in_ok-walk_instance.ensures c.in_ok-found-2.ensures
