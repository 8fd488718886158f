use Rattle.std.proofs.Common.{◌<◌, length, cond, nat_eq, refl, ap, ◌∙◌, Some, Ok, Err, arith}
use Rattle.std.proofs.lemmas.Option.{slice_get_read}
use Rattle.relaxed.specs.declared.interval.Interval.{Interval}
use Rattle.relaxed.specs.Interval.{hull}
use Rattle.relaxed.specs.inside.Kept.{interval_in, layer_of}
use Rattle.relaxed.proofs.PartSteps.{set-next, set-fails, set-ends}
use Rattle.relaxed.proofs.WidenSteps.{values-next}
use Rattle.relaxed.proofs.widening.widen_by_values.Goals as goal

pub returns-in-Err-clause-answers : goal.returns-in-Err-clause-answers
returns-in-Err-clause-answers c =
    let ss = c.args.sets.now in
    let below : c.loop-i.i < length ss = omega arith in
    c.loop-i.invariant.answers (Err c.in-Err.fail)
    (set-fails (layer_of c.args.table.now) c.args.layer c.args.action ss c.loop-i.i c.index-sets-i.result c.in-Err.fail
    (slice_get_read ss (length ss) c.loop-i.i c.index-sets-i.result refl below c.index-sets-i.is) c.in-Err.ensures)

pub loop-i-preserved : goal.loop-i-preserved
loop-i-preserved c =
    let y = layer_of c.args.table.now in
    let ss = c.args.sets.now in
    let s = c.index-sets-i.result in
    let below : c.loop-i.i < length ss = omega arith in
    let is = slice_get_read ss (length ss) c.loop-i.i s refl below c.index-sets-i.is in
    record {
      answers = λ r h. c.loop-i.invariant.answers r (set-next y c.args.layer c.args.action ss c.loop-i.i s is c.in-Ok.ensures.0 r h);
      size = c.widen_one.ensures.size ∙ c.loop-i.invariant.size;
      each = λ n l.
          let size = c.loop-i.invariant.size in
          let here : n < length c.loop-i.intervals = omega arith in
          let old = interval_in c.loop-i.intervals n in
          values-next y ss c.loop-i.i n s old (interval_in c.widen_one.new.intervals n) is
          (c.widen_one.ensures.each n here ∙ ap (λ (i : Interval). cond (nat_eq s.0 n) (hull old (Some i)) old) c.in-Ok.ensures.1)
          ∙ c.loop-i.invariant.each n l;
    }

pub returns-clause-answers : goal.returns-clause-answers
returns-clause-answers c =
    c.loop-i.invariant.answers (Ok tt) (set-ends (layer_of c.args.table.now) c.args.layer c.args.action c.args.sets.now c.loop-i.i (omega arith))
