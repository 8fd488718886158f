use Rattle.lin.proofs.Negatives.{normal-negative, is_negative}
use Rattle.lin.proofs.linear.Lin.neg.Goals as goal

pub made-requires : goal.made-requires
made-requires c = normal-negative c.args.self.now _ _ c.all_terms.ensures.value c.in_ok-terms.ensures

pub returns : goal.returns
returns c = is_negative c.args.self.now _ _ _ _ _ c.all_terms.ensures.value c.in_ok-terms.ensures c.constant-constant.ensures c.neg.ensures c.made.ensures.terms c.made.ensures.constant
