use Rattle.typing_linear.proofs.Resolved.{reads_alike}
use Rattle.typing_linear.proofs.laws.written_and_resolved_read_alike.Goals as goal

pub returns : goal.returns
returns c = reads_alike
