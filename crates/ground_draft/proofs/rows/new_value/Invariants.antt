use Rattle.lin.specs.Linear.{var}
use Rattle.ground_draft.specs.inside.Acts.{become_by, become_ops_by}
use Rattle.ground_draft.proofs.Loops.{IsRunning}
use Rattle.ground_draft.proofs.rows.new_value.Given as goal

abbrev pub invariant-loop-next : goal.invariant-loop-next
invariant-loop-next l = IsRunning (become_by l.func) (become_ops_by l.func) (var l.func) l.moves l.so_far l.next-index
