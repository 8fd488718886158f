use Rattle.std.proofs.Common.{sym, ◌∙◌, below_more}
use Rattle.plan_repeat.proofs.Zeros.{zero-is, not-zero, item-at}
use Rattle.plan_repeat.proofs.deciding.some_grows.Goals as goal

pub loop-growth-preserved : goal.loop-growth-preserved
loop-growth-preserved c =
    let q = c.growth-item.result in
    below_more _ _ c.loop-growth.invariant
    (sym (item-at c.args.growths.now c.loop-growth.growth-index q c.loop-growth-test.true c.growth-item.is) ∙ zero-is q (sym c.is_zero.ensures ∙ c.if-not-is_zero.false))

pub returns-then-not-is_zero-clause-some : goal.returns-then-not-is_zero-clause-some
returns-then-not-is_zero-clause-some c = λ u.
    let q = c.growth-item.result in
    record {
      place = c.loop-growth.growth-index;
      within = c.loop-growth-test.true;
      grows = λ e. not-zero q (sym c.is_zero.ensures ∙ c.if-not-is_zero.true) (item-at c.args.growths.now c.loop-growth.growth-index q c.loop-growth-test.true c.growth-item.is ∙ e);
    }
