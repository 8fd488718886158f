use Rattle.std.proofs.Common.{rules, Ok, Err}
use Rattle.frac128.specs.declared.text.NumFault.TheVariants.{Form, Wide}
use Rattle.frac128.proofs.Number.{number_from_reads}
use Rattle.frac128.proofs.fraction.Frac.from_decimal.Goals as goal

pub returns-in_default-clause-number : goal.returns-in_default-clause-number
returns-in_default-clause-number c = number_from_reads c.args.text.now (Err Form) (search rules)

pub returns-in_default-power_of_ten-clause-number : goal.returns-in_default-power_of_ten-clause-number
returns-in_default-power_of_ten-clause-number c = number_from_reads c.args.text.now (Err Wide) (search rules)

pub returns-in_default-number_of_both-clause-number : goal.returns-in_default-number_of_both-clause-number
returns-in_default-number_of_both-clause-number c = number_from_reads c.args.text.now (Err Wide) (search rules)

pub returns-clause-number : goal.returns-clause-number
returns-clause-number c = number_from_reads c.args.text.now (Ok c.ratio.result) (search rules)
