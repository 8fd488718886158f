use Rattle.std.proofs.Common.{ap, ◌∙◌}
use Rattle.std.proofs.lemmas.Result.{err_from_is_err_and}
use Rattle.ground_draft.specs.inside.Acts.{next_row, row_ops_at, with_row}
use Rattle.ground_draft.proofs.Loops.{same_item, running-refused, running-next, running-done}
use Rattle.ground_draft.proofs.rows.all_rows.Goals as goal

pub returns-in_err-row : goal.returns-in_err-row
returns-in_err-row c =
    let p = err_from_is_err_and c.from_residual.result c.from_residual.ensures.1 in
    rw (p.1, p.2) (running-refused (next_row c.args.moves.now) (λ rows n. row_ops_at c.args.moves.now n) _ _ c.loop-func.rows c.loop-func.func-index _ c.loop-func-test.true (same_item _ _ _ c.loop-func-test.true) c.loop-func.invariant _ c.in_err-row.ensures)

pub loop-func-preserved : goal.loop-func-preserved
loop-func-preserved c =
    running-next (next_row c.args.moves.now) (λ rows n. row_ops_at c.args.moves.now n) _ _ c.loop-func.rows c.loop-func.func-index _ c.loop-func-test.true (same_item _ _ _ c.loop-func-test.true) c.loop-func.invariant _ c.in_ok-row.ensures.0
    (c.in_ok-put_row.ensures ∙ ap (with_row c.loop-func.rows _) c.in_ok-row.ensures.1)

pub returns : goal.returns
returns c = running-done _ _ _ _ _ _ c.loop-func-test.false c.loop-func.invariant
