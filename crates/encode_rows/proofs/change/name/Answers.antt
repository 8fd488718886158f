use Rattle.encode_rows.proofs.ChangeLaws.{name-made}
use Rattle.encode_rows.proofs.change.name.Goals as goal

pub returns : goal.returns
returns c = name-made c.args.formula.now c.add_truth.new.self c.in_ok-boolean.boolean c.in_ok-boolean.ensures.number c.in_ok-boolean.ensures.added
