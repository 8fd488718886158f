use Rattle.simplex_law.proofs.PairLaws.{on_lower, on_upper, fails}
use Rattle.simplex_check.proofs.choice.side_of.Goals as goal

pub returns : goal.returns
returns c =
    (on_lower _ _ (fails c.is_under.result c.if-is_under.false c.is_under.ensures.1), on_upper _ _ (fails c.is_over.result c.if-is_over.false c.is_over.ensures.1))
