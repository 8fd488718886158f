use Rattle.ground_draft.specs.inside.Acts.{next_row, row_ops_at, no_rows}
use Rattle.ground_draft.proofs.Loops.{IsRunning}
use Rattle.ground_draft.proofs.rows.all_rows.Given as goal

abbrev pub invariant-loop-func : goal.invariant-loop-func
invariant-loop-func l = IsRunning (next_row l.moves) (λ rows n. row_ops_at l.moves n) no_rows l.funcs l.rows l.func-index
