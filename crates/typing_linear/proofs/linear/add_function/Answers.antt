use Rattle.typing_linear.proofs.Changed.{also_name}
use Rattle.typing_linear.proofs.linear.add_function.Goals as goal

pub returns : goal.returns
returns c = also_name _ _ _ c.in_ok-add_name.ensures.names
