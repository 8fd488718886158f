use Rattle.lin.specs.Linear.{point_of}
use Rattle.pattern.proofs.AtLast.{rolled-answers}
use Rattle.pattern.proofs.rolling.holds_rolled.Goals as goal

pub returns : goal.returns
returns c =
    rolled-answers c.args.a.now c.requires.rollable c.args.count.now (point_of c.args.values.now) c.all_hold_at_both.result _ _ c.as_slice.ensures c.as_slice-2.ensures c.all_hold_at_both.ensures c.requires.count
