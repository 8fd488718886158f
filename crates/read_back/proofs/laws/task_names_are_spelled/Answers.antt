use Rattle.read_back.proofs.ReadBack.{names_spelled}
use Rattle.read_back.proofs.laws.task_names_are_spelled.Goals as goal

pub returns : goal.returns
returns c = names_spelled
