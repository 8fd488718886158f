use Rattle.lin.proofs.Making.{normal-var, is_var}
use Rattle.lin.proofs.linear.Lin.var.Goals as goal

pub made-requires : goal.made-requires
made-requires c = normal-var _ _ _ _ c.new-terms.ensures c.ratio.ensures c.in_ok-push.ensures.ok

pub returns : goal.returns
returns c = is_var _ _ _ _ _ _ c.new-terms.ensures c.ratio.ensures c.in_ok-push.ensures.ok c.ratio-2.ensures c.made.ensures.terms c.made.ensures.constant
