use Rattle.formula.proofs.Keys.{key-next}
use Rattle.formula.proofs.key.key_of.Goals as goal

pub loop-i-preserved : goal.loop-i-preserved
loop-i-preserved c =
    key-next c.args.a.now.lin.terms c.loop-i.i c.term-term.result c.from.result _ _ _ _ c.term-term.ensures c.from.ensures c.in_ok-push-2.ensures c.in_ok-push_fraction-2.ensures c.loop-i.invariant
