use Rattle.formula.proofs.Splits.{split_is_atom}
use Rattle.formula.proofs.formula.Formula.add_split.Goals as goal

pub push_atom-requires : goal.push_atom-requires
push_atom-requires c =
    split_is_atom c.args.self.now.counts c.args.v c.args.k c.in_ok-lin.lin c.in_ok-lin.ensures c.requires.count c.requires.whole c.requires.next
