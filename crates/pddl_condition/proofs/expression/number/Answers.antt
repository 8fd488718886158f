use Rattle.std.proofs.Common.{◌∙◌, ap}
use Rattle.frac128.specs.Number.{number_of}
use Rattle.pddl_condition.proofs.expression.number.Goals as goal

pub returns : goal.returns
returns c = c.ok.ensures.value ∙ c.from_decimal.ensures.number ∙ ap number_of c.as_bytes.ensures.value
