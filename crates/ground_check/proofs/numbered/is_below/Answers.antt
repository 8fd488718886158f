use Rattle.std.proofs.Common.{rules}
use Rattle.ground_check.proofs.Parts.{all_below}
use Rattle.ground_check.proofs.numbered.is_below.Goals as goal

pub returns : goal.returns
returns c e = all_below c.args.funcs c.args.l.now.terms (search (rules, c.is_below.ensures, e))
