use Rattle.sexpr.proofs.Order.{lists_rise_in_text}
use Rattle.sexpr.proofs.laws.spelled_lists_rise.Goals as goal

pub returns : goal.returns
returns c = lists_rise_in_text
