use Rattle.simplex_fit.proofs.SplitLaws.{split_sides_are}
use Rattle.simplex_fit.proofs.splitting.split_sides.Goals as goal

pub returns : goal.returns
returns c = λ counts rows count. split_sides_are counts rows c.args.variable c.args.k c.successor.result count c.successor.ensures
