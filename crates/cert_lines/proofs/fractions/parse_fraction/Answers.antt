use Rattle.std.proofs.Common.{◌∙◌}
use Rattle.cert_lines.proofs.FractionReading.{fraction_read}
use Rattle.cert_lines.proofs.fractions.parse_fraction.Goals as goal

pub returns : goal.returns
returns c = c.ok.ensures.value ∙ fraction_read c.args.text.now c.from_text.result c.from_text.ensures
