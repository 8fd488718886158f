use Rattle.ground_check.proofs.Amounts.{not_among}
use Rattle.ground_check.proofs.orderly.has_no_amount.Goals as goal

pub returns : goal.returns
returns c e = not_among c.args.f c.args.a.now.incs (c.no_increment_reads.ensures e)
