use Rattle.frac128.proofs.OneAnswer.{texts_tell}
use Rattle.frac128.proofs.laws.texts_tell_fractions.Goals as goal

pub returns : goal.returns
returns c = texts_tell
