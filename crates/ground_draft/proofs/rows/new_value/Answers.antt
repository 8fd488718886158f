use Rattle.std.proofs.lemmas.Result.{err_from_is_err_and}
use Rattle.ground_draft.specs.inside.Acts.{become_by, become_ops_by}
use Rattle.ground_draft.proofs.Loops.{running-start, running-refused, running-next, running-done}
use Rattle.ground_draft.proofs.rows.new_value.Goals as goal

pub loop-next-init : goal.loop-next-init
loop-next-init c = running-start _ _ _ _ _ c.in_ok-so_far.ensures

pub returns-in_err-so_far-2 : goal.returns-in_err-so_far-2
returns-in_err-so_far-2 c =
    let p = err_from_is_err_and c.from_residual-in_err-so_far-2.result c.from_residual-in_err-so_far-2.ensures.1 in
    rw (p.1, p.2) (running-refused (become_by c.args.func) (become_ops_by c.args.func) _ _ c.loop-next.so_far c.loop-next.next-index _ c.loop-next-test.true c.next-item.is c.loop-next.invariant _ c.in_err-so_far-2.ensures)

pub loop-next-preserved : goal.loop-next-preserved
loop-next-preserved c =
    running-next (become_by c.args.func) (become_ops_by c.args.func) _ _ c.loop-next.so_far c.loop-next.next-index _ c.loop-next-test.true c.next-item.is c.loop-next.invariant _ c.in_ok-so_far-2.ensures.0 c.in_ok-so_far-2.ensures.1

pub returns : goal.returns
returns c = running-done _ _ _ _ _ _ c.loop-next-test.false c.loop-next.invariant
