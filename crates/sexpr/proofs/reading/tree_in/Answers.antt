use Rattle.sexpr.proofs.Ending.{reads_tree}
use Rattle.sexpr.proofs.reading.tree_in.Goals as goal

pub returns : goal.returns
returns c = reads_tree _ c.loop-at.reading _ _ c.loop-at.invariant c.loop-at-test.false c.finish.ensures
