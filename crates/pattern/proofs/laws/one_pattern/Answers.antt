use Rattle.pattern.proofs.Order.{one-pattern}
use Rattle.pattern.proofs.laws.one_pattern.Goals as goal

pub returns : goal.returns
returns c = one-pattern
