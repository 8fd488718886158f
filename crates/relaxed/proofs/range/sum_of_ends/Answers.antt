use Rattle.std.proofs.Common.{◌∙◌, ap, Ok, Err, arith}
use Rattle.std.specs.Prelude.{is_some}
use Rattle.std.proofs.lemmas.Bool.{both_ways}
use Rattle.std.proofs.lemmas.Result.{err_from_is_err_and}
use Rattle.relaxed.specs.declared.interval.End.TheVariants.{At}
use Rattle.relaxed.specs.Layers.{box}
use Rattle.relaxed.specs.inside.Kept.{layer_of}
use Rattle.relaxed.proofs.RangeSteps.{some-next, none-at, sum-next, sum-fails, sum-ends}
use Rattle.relaxed.proofs.range.sum_of_ends.Goals as goal

pub returns-in_err-sum-in-At : goal.returns-in_err-sum-in-At
returns-in_err-sum-in-At c =
    let at = box (layer_of c.args.table.now) in
    let bounded = some-next c.args.side at c.args.l.now.terms c.loop-i.i c.term-variable.result c.in-At.e c.term-variable.ensures c.in-At.ensures ∙ c.loop-i.invariant.bounded in
    let p = err_from_is_err_and c.from_residual.result c.from_residual.ensures.1 in
    rw (p.1, p.2) (c.loop-i.invariant.whole (Err c.in_err-sum-in-At.field-0.0)
    (sum-fails c.args.side at c.args.l.now.terms c.loop-i.i c.term-variable.result c.in-At.e c.loop-i.sum _ c.term-variable.ensures c.in-At.ensures bounded c.in_err-sum-in-At.ensures))

pub returns-in-Infinite : goal.returns-in-Infinite
returns-in-Infinite c =
    let none = ap is_some (none-at c.args.side (box (layer_of c.args.table.now)) c.args.l.now.terms c.loop-i.i c.term-variable.result c.term-variable.ensures c.in-Infinite.ensures) in
    absurd (both_ways _ none c.loop-i.invariant.bounded)

pub loop-i-preserved : goal.loop-i-preserved
loop-i-preserved c =
    let at = box (layer_of c.args.table.now) in
    let bounded = some-next c.args.side at c.args.l.now.terms c.loop-i.i c.term-variable.result c.in-At.e c.term-variable.ensures c.in-At.ensures ∙ c.loop-i.invariant.bounded in
    record {
      bounded = bounded;
      whole = λ r h. c.loop-i.invariant.whole r
          (sum-next c.args.side at c.args.l.now.terms c.loop-i.i c.term-variable.result c.in-At.e c.loop-i.sum c.in_ok-sum-in-At.sum c.term-variable.ensures c.in-At.ensures bounded
          c.in_ok-sum-in-At.ensures.0 c.in_ok-sum-in-At.ensures.1 r h);
    }

pub returns : goal.returns
returns c = c.loop-i.invariant.whole (Ok (At c.loop-i.sum)) (sum-ends c.args.side (box (layer_of c.args.table.now)) c.args.l.now.terms c.loop-i.i c.loop-i.sum (omega arith))
