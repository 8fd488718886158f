use Rattle.cert_check.proofs.Accepting.{accepts_split}
use Rattle.cert_check.proofs.testing.test_split.Goals as goal

pub returns : goal.returns
returns c =
    accepts_split c.args.formula.now c.args.boolean c.args.var c.args.k.now c.args.point.now c.value_at.result.now c.in-Ok-true.field-0 (c.is_known_split.ensures.0 c.if-not-is_known_split.false)
    c.in-Ok-true.field-0-test c.in-Ok-true.ensures c.value_at.ensures (c.is_between.ensures.0 c.if-not-is_between.false)
