use Rattle.typing_types.proofs.Fitting.{none_left}
use Rattle.typing_types.proofs.fit.judge_arguments.Goals as goal

pub returns : goal.returns
returns c = none_left _ _ _ _ _ _ c.loop-at.invariant c.loop-at-test.false
