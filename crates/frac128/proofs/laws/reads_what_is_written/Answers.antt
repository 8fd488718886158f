use Rattle.frac128.proofs.OneAnswer.{reads_written}
use Rattle.frac128.proofs.laws.reads_what_is_written.Goals as goal

pub returns : goal.returns
returns c = reads_written
