use Rattle.std.proofs.Common.{◌≡◌, ◌<◌, length, ◌&&◌, false, refl, ap, subst, Bool, Ok, Err, drop, ◌+◌, arith}
use Rattle.std.proofs.lemmas.Option.{slice_get_read}
use Rattle.relaxed.specs.inside.Kept.{layer_of}
use Rattle.relaxed.proofs.PartSteps.{Left, comparison-next, comparison-fails, comparison-ends}
use Rattle.relaxed.proofs.testing.test_comparisons.Goals as goal
use Rattle.relaxed.proofs.testing.test_comparisons.Goals.{then-all_hold, else-all_hold}

pub returns-in-Err : goal.returns-in-Err
returns-in-Err c =
    let y = layer_of c.args.table.now in
    let cs = c.args.cmps.now in
    let below : c.loop-i.i < length cs = omega arith in
    c.loop-i.invariant (Err c.in-Err.fail)
    (comparison-fails y c.args.layer c.args.action cs c.loop-i.i c.index-cmps-i.result c.loop-i.all_hold c.in-Err.fail
    (slice_get_read cs (length cs) c.loop-i.i c.index-cmps-i.result refl below c.index-cmps-i.is) c.in-Err.ensures)

pub loop-i-preserved : goal.loop-i-preserved
loop-i-preserved c r h =
    let y = layer_of c.args.table.now in
    let cs = c.args.cmps.now in
    let below : c.loop-i.i < length cs = omega arith in
    let joined : c.if-all_hold.all_hold ≡ (c.loop-i.all_hold && c.in-Ok.may_hold) =
    elim c.if-all_hold.branch [
      | then-all_hold w ↦ (let e : (c.loop-i.all_hold && c.in-Ok.may_hold) ≡ c.in-Ok.may_hold = ap (λ b. b && c.in-Ok.may_hold) w.if-all_hold.true in cc)
      | else-all_hold w ↦ (let e : (c.loop-i.all_hold && c.in-Ok.may_hold) ≡ false = ap (λ b. b && c.in-Ok.may_hold) w.if-all_hold.false in cc)
    ] in
    c.loop-i.invariant r
    (comparison-next y c.args.layer c.args.action cs c.loop-i.i c.index-cmps-i.result c.loop-i.all_hold c.in-Ok.may_hold
    (slice_get_read cs (length cs) c.loop-i.i c.index-cmps-i.result refl below c.index-cmps-i.is) c.in-Ok.ensures.0 c.in-Ok.ensures.1 r
    (subst (λ (b : Bool). Left y c.args.layer c.args.action (c.loop-i.i + 1) b (drop (c.loop-i.i + 1) cs) r) joined h))

pub returns : goal.returns
returns c =
    let y = layer_of c.args.table.now in
    c.loop-i.invariant (Ok c.loop-i.all_hold) (comparison-ends y c.args.layer c.args.action c.args.cmps.now c.loop-i.i c.loop-i.all_hold (omega arith))
