use Rattle.encode_rows.proofs.BeginningLaws.{number-adds}
use Rattle.encode_rows.proofs.beginning.add_number.Goals as goal

pub returns : goal.returns
returns c = number-adds c.args.count c.args.formula.now c.add_var.new.self c.in_ok-number.number c.in_ok-number.ensures.number c.in_ok-number.ensures.added
