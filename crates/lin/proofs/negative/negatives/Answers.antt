use Rattle.std.proofs.Common.{◌∙◌}
use Rattle.lin.proofs.Negatives.{negatives-start, negatives-next, negatives-done}
use Rattle.lin.proofs.negative.negatives.Goals as goal

pub loop-term-init : goal.loop-term-init
loop-term-init c = negatives-start _ _ c.in_ok-out.ensures.items

pub loop-term-preserved : goal.loop-term-preserved
loop-term-preserved c =
    negatives-next _ _ _ _ _ _ (record { within = c.loop-term-test.true; is = c.term-item.is }) c.neg.ensures c.in_ok-push.ensures c.loop-term.invariant

pub returns : goal.returns
returns c = c.from_vec.ensures ∙ negatives-done c.args.terms.now _ _ c.loop-term-test.false c.loop-term.invariant
