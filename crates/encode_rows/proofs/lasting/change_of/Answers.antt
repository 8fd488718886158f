use Rattle.std.proofs.Common.{◌≡◌, ◌∙◌, ◌≤◌, ◌∷◌, ◌+◌, ℕ, drop, length, arith, ap, sym}
use Rattle.std.proofs.lemmas.Result.{err_from_is_err_and}
use Rattle.std.proofs.lemmas.List.{drop_more}
use lib.IntN.{pos}
use Rattle.rational.specs.Fraction.{Fraction, whole}
use Rattle.rational.proofs.FieldLaws.{quotient-itself}
use Rattle.encode_rows.proofs.LastingLaws.{changing-start, changing-next, changing-stop, changing-end}
use Rattle.encode_rows.proofs.lasting.change_of.Goals as goal

pub loop-inc-init : goal.loop-inc-init
loop-inc-init c = changing-start c.args.incs.now c.args.l.now c.ratio-sum.result (c.ratio-sum.ensures ∙ quotient-itself (whole (pos 0)))

pub returns-in_err-sum : goal.returns-in_err-sum
returns-in_err-sum c =
    let p = err_from_is_err_and c.from_residual.result c.from_residual.ensures.1 in
    let at : drop c.loop-inc.inc-index c.args.incs.now ≡ c.inc-item.result ∷ drop (c.loop-inc.inc-index + 1) c.args.incs.now =
    drop_more c.args.incs.now c.loop-inc.inc-index c.inc-item.result c.loop-inc-test.true ∙ ap (λ (q : ℕ × Fraction). q ∷ drop (c.loop-inc.inc-index + 1) c.args.incs.now) (sym c.inc-item.is) in
    rw (p.1, p.2)
    (changing-stop c.args.incs.now c.args.l.now c.loop-inc.sum c.coefficient-coefficient.result c.loop-inc.inc-index c.inc-item.result at c.loop-inc.invariant c.coefficient-coefficient.ensures
    c.in_err-sum.field-0.0 c.in_err-sum.ensures)

pub loop-inc-preserved : goal.loop-inc-preserved
loop-inc-preserved c =
    let at : drop c.loop-inc.inc-index c.args.incs.now ≡ c.inc-item.result ∷ drop (c.loop-inc.inc-index + 1) c.args.incs.now =
    drop_more c.args.incs.now c.loop-inc.inc-index c.inc-item.result c.loop-inc-test.true ∙ ap (λ (q : ℕ × Fraction). q ∷ drop (c.loop-inc.inc-index + 1) c.args.incs.now) (sym c.inc-item.is) in
    changing-next c.args.incs.now c.args.l.now c.loop-inc.sum c.coefficient-coefficient.result c.loop-inc.inc-index c.inc-item.result at c.loop-inc.invariant c.coefficient-coefficient.ensures
    c.in_ok-sum.sum c.in_ok-sum.ensures

pub returns : goal.returns
returns c =
    let l : length c.args.incs.now ≤ c.loop-inc.inc-index = omega arith in
    changing-end c.args.incs.now c.args.l.now c.loop-inc.sum c.loop-inc.inc-index l c.loop-inc.invariant
