use Rattle.std.proofs.Common.{ap}
use Rattle.typing_linear.specs.Linear.{changes}
use Rattle.typing_linear.proofs.Changed.{also_none, also_change}
use Rattle.typing_linear.proofs.linear.add_changed.Goals as goal

pub returns-in-Put : goal.returns-in-Put
returns-in-Put c = also_none _ _ (λ func. ap (changes func) c.in-Put.is)

pub returns-in-Change : goal.returns-in-Change
returns-in-Change c = also_change _ _ _ _ _ _ _ _ _ c.in-Change.is c.as_str.ensures c.add_function.ensures
