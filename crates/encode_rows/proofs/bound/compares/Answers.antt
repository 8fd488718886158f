use Rattle.std.proofs.Common.{◌∙◌}
use lib.IntN.{pos}
use Rattle.rational.specs.Fraction.{whole}
use Rattle.rational.proofs.FieldLaws.{quotient-itself}
use Rattle.encode_rows.proofs.RoundingLaws.{less_compares, equal_compares, greater_compares}
use Rattle.encode_rows.proofs.bound.compares.Goals as goal

pub returns-in-Less : goal.returns-in-Less
returns-in-Less c = less_compares c.args.strict c.args.k.now c.ratio.result (c.ratio.ensures ∙ quotient-itself (whole (pos 0))) c.in-Less.ensures

pub returns-in-Equal : goal.returns-in-Equal
returns-in-Equal c = equal_compares c.args.strict c.args.k.now c.ratio.result (c.ratio.ensures ∙ quotient-itself (whole (pos 0))) c.in-Equal.ensures

pub returns-in-Greater : goal.returns-in-Greater
returns-in-Greater c = greater_compares c.args.strict c.args.k.now c.ratio.result (c.ratio.ensures ∙ quotient-itself (whole (pos 0))) c.in-Greater.ensures
