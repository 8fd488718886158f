use Rattle.pattern_text.proofs.Calls.{kept_are_calls}
use Rattle.pattern_text.proofs.laws.kept_instances_are_calls.Goals as goal

pub returns : goal.returns
returns c = kept_are_calls
