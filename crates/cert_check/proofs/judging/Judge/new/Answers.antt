use Rattle.cert_check.proofs.Readies.{kept_new}
use Rattle.cert_check.proofs.judging.Judge.new.Goals as goal

pub invariant_of-result : goal.invariant_of-result
invariant_of-result c = kept_new c.args.formula c.in_ok-truths.truths c.booleans.result c.in_ok-index.index c.in_ok-truths.ensures c.booleans.ensures c.in_ok-index.ensures.room c.in_ok-index.ensures.indexed
