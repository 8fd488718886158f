use Rattle.plan_text.proofs.Arguments.{read_some}
use Rattle.plan_text.proofs.Parts.{uncounted_read}
use Rattle.plan_text.proofs.part.read_uncounted.Goals as goal

pub returns : goal.returns
returns c = uncounted_read _ c.args.text.now c.args.from _ _ _ _ (read_some _ _ _ _ _ _ c.in_ok-by.ensures c.in-Some.is) c.make_part.ensures
