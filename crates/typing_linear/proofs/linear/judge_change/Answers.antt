use Rattle.typing_linear.proofs.Reading.{nonlinear_change}
use Rattle.typing_linear.proofs.linear.judge_change.Goals as goal

pub returns-then-scales : goal.returns-then-scales
returns-then-scales c = nonlinear_change _ _ _ _ _ _ _ _ _ c.as_str.ensures c.read_expression-reads.ensures.reads c.if-reads.true c.scales.ensures c.if-scales.true c.read_expression-reads.ensures.faults c.note_nonlinear.ensures
