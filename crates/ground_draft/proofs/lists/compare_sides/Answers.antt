use Rattle.ground_draft.specs.inside.Lists.{part_from}
use Rattle.ground_draft.proofs.Forming.{form_from}
use Rattle.ground_draft.proofs.lists.compare_sides.Goals as goal

pub returns : goal.returns
returns c = c.compare.ensures (part_from c.args.left.now) (part_from c.args.right.now) (form_from c.args.left.now) (form_from c.args.right.now)
