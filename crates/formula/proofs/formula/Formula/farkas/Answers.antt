use Rattle.std.proofs.Common.{sym, ap, ◌∙◌, arith}
use Rattle.std.proofs.lemmas.Result.{err_from_is_err_and}
use lib.IntN.{pos}
use Rattle.rational.specs.Fraction.{whole}
use Rattle.rational.proofs.FieldLaws.{quotient-itself}
use Rattle.lin.specs.Linear.{fixed}
use Rattle.formula.specs.Farkas.{taken}
use Rattle.formula.proofs.FarkasSteps.{taken_next, taken_length, summing-start, summing-refused, summing-next, summing-done}
use Rattle.formula.proofs.FarkasAnswers.{where_refused, where_decided}
use Rattle.formula.proofs.formula.Formula.farkas.Goals as goal

pub loop-i-init : goal.loop-i-init
loop-i-init c =
    let z = c.ratio-zero.ensures ∙ quotient-itself (whole (pos 0)) in
    summing-start (taken c.args.self.now c.args.lits.now c.args.coefs.now) _ _ (c.fixed.ensures ∙ ap fixed z) z

pub returns-in_err-sum : goal.returns-in_err-sum
returns-in_err-sum c =
    let p = err_from_is_err_and c.from_residual-in_err-sum.result c.from_residual-in_err-sum.ensures.1 in
    let ts = taken c.args.self.now c.args.lits.now c.args.coefs.now in
    let n = taken_next c.args.self.now c.args.lits.now c.args.coefs.now c.loop-i.i _ c.opposite.result c.index-coefs-i.result c.in_ok-reading.reading c.requires.many c.loop-i-test.true c.index-coefs-i.is
    c.opposite.ensures.boolean c.opposite.ensures.pos c.in_ok-reading.ensures in
    rw (p.1, p.2)
    (where_refused _ ts _ (sym c.has_negative.ensures ∙ c.if-has_negative.false) (summing-refused ts c.loop-i.sum.0 c.loop-i.sum.1 c.loop-i.strict c.loop-i.i _ _ n c.loop-i.invariant _ c.in_err-sum.ensures))

pub loop-i-preserved : goal.loop-i-preserved
loop-i-preserved c =
    let ts = taken c.args.self.now c.args.lits.now c.args.coefs.now in
    let n = taken_next c.args.self.now c.args.lits.now c.args.coefs.now c.loop-i.i _ c.opposite.result c.index-coefs-i.result c.in_ok-reading.reading c.requires.many c.loop-i-test.true c.index-coefs-i.is
    c.opposite.ensures.boolean c.opposite.ensures.pos c.in_ok-reading.ensures in
    summing-next ts c.loop-i.sum.0 c.loop-i.sum.1 c.loop-i.strict c.loop-i.i _ _ n c.loop-i.invariant c.in_ok-sum.sum c.or_strictly-strict.result c.in_ok-sum.ensures.0 c.in_ok-sum.ensures.1 c.or_strictly-strict.ensures

pub returns : goal.returns
returns c =
    let l = taken_length c.args.self.now c.args.lits.now c.args.coefs.now c.requires.many in
    let e = c.loop-i-test.false in
    let d = summing-done (taken c.args.self.now c.args.lits.now c.args.coefs.now) c.loop-i.sum.0 c.loop-i.sum.1 c.loop-i.strict c.loop-i.i (omega (arith, l)) c.loop-i.invariant in
    where_decided c.args.self.now c.args.lits.now c.args.coefs.now c.loop-i.sum.0 c.loop-i.sum.1 c.loop-i.strict _ (sym c.has_negative.ensures ∙ c.if-has_negative.false) d c.is_refuted.ensures
