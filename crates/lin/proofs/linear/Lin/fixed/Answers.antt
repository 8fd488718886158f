use Rattle.std.proofs.Common.{◌∙◌}
use Rattle.lin.specs.Code.{same_linear}
use Rattle.lin.proofs.Making.{normal-none}
use Rattle.lin.proofs.linear.Lin.fixed.Goals as goal

pub made-requires : goal.made-requires
made-requires c = normal-none _ c.new.ensures

pub returns : goal.returns
returns c = same_linear _ _ (c.made.ensures.terms ∙ c.new.ensures) c.made.ensures.constant
