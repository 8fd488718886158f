use Rattle.std.proofs.Common.{length}
use Rattle.ground_entry.proofs.Acting.{rest_of, IsGoing}
use Rattle.ground_entry.proofs.action.walk_lists.Given as goal

abbrev pub invariant-instances : goal.invariant-instances
invariant-instances l = IsGoing l.search.task.now l.limit l.number l.search.action.now l.initial.walk l.walk l.found l.args

abbrev pub decreases-instances : goal.decreases-instances
decreases-instances l = length (rest_of l.search.task.now l.limit l.number l.search.action.now l.found l.args)
