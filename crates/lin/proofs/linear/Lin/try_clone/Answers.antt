use Rattle.std.proofs.Common.{◌∙◌}
use Rattle.lin.specs.Code.{same_linear}
use Rattle.lin.proofs.SumAnswers.{normal-equal}
use Rattle.lin.proofs.linear.Lin.try_clone.Goals as goal

pub made-requires : goal.made-requires
made-requires c = normal-equal _ _ c.in_ok-terms.ensures c.all_terms.ensures.normal

pub returns : goal.returns
returns c =
    same_linear _ c.args.self.now (c.made.ensures.terms ∙ c.in_ok-terms.ensures ∙ c.all_terms.ensures.value) (c.made.ensures.constant ∙ c.constant.ensures)
