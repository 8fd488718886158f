use Rattle.pattern.proofs.InPattern.{reachable-step-in}
use Rattle.pattern.proofs.laws.reachable_step_is_in_pattern.Goals as goal

pub returns : goal.returns
returns c task ps s a promised p r below h = reachable-step-in task promised ps p s a r below h
