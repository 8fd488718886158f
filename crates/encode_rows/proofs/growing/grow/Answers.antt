use Rattle.std.proofs.Common.{◌≡◌, ◌∙◌, ◌≤◌, ◌+◌, ◌∷◌, ℕ, length, drop, ap, sym, subst, arith}
use Rattle.std.proofs.lemmas.Result.{err_from_is_err_and}
use Rattle.std.proofs.lemmas.List.{drop_more}
use Rattle.std.proofs.Math.ListN.{drop_of_length-le}
use Rattle.rational.specs.Fraction.{Fraction}
use Rattle.rational.specs.Linear.{Terms}
use Rattle.task_core.specs.Task.{numbers}
use Rattle.encode_rows.proofs.RisingLaws.{rising-distinct}
use Rattle.encode_rows.proofs.GrowingLaws.{Growing, growing-start, growing-stop, growing-step, growing-end}
use Rattle.encode_rows.proofs.growing.grow.Goals as goal

pub loop-inc-init : goal.loop-inc-init
loop-inc-init c = growing-start c.args.c c.args.incs.now c.args.values.now (rising-distinct (numbers c.args.incs.now) c.requires.once)

pub returns-in_err-increment-clause-grows : goal.returns-in_err-increment-clause-grows
returns-in_err-increment-clause-grows c =
    let p = err_from_is_err_and c.from_residual.result c.from_residual.ensures.1 in
    let at : drop c.loop-inc.inc-index c.args.incs.now ≡ c.inc-item.result ∷ drop (c.loop-inc.inc-index + 1) c.args.incs.now =
    drop_more c.args.incs.now c.loop-inc.inc-index c.inc-item.result c.loop-inc-test.true ∙ ap (λ (q : ℕ × Fraction). q ∷ drop (c.loop-inc.inc-index + 1) c.args.incs.now) (sym c.inc-item.is) in
    rw (p.1, p.2)
    (growing-stop c.args.c c.args.incs.now c.args.values.now c.inc-item.result (drop (c.loop-inc.inc-index + 1) c.args.incs.now) c.loop-inc.values c.increment.new.values
    (subst (λ (qs : Terms). Growing c.args.c c.args.incs.now c.args.values.now qs c.loop-inc.values) at c.loop-inc.invariant) (Unit {0}) (Unit {0}) c.increment.new.values c.in_err-increment.field-0.0
    c.in_err-increment.ensures.grows)

pub loop-inc-preserved : goal.loop-inc-preserved
loop-inc-preserved c =
    let at : drop c.loop-inc.inc-index c.args.incs.now ≡ c.inc-item.result ∷ drop (c.loop-inc.inc-index + 1) c.args.incs.now =
    drop_more c.args.incs.now c.loop-inc.inc-index c.inc-item.result c.loop-inc-test.true ∙ ap (λ (q : ℕ × Fraction). q ∷ drop (c.loop-inc.inc-index + 1) c.args.incs.now) (sym c.inc-item.is) in
    growing-step c.args.c c.args.incs.now c.args.values.now c.inc-item.result (drop (c.loop-inc.inc-index + 1) c.args.incs.now) c.loop-inc.values c.increment.new.values
    (subst (λ (qs : Terms). Growing c.args.c c.args.incs.now c.args.values.now qs c.loop-inc.values) at c.loop-inc.invariant) (Unit {0}) tt c.in_ok-increment.ensures.grows c.in_ok-increment.ensures.kept

pub returns-clause-grows : goal.returns-clause-grows
returns-clause-grows c =
    let l : length c.args.incs.now ≤ c.loop-inc.inc-index = omega arith in
    growing-end c.args.c c.args.incs.now c.args.values.now c.loop-inc.values (Unit {0}) tt
    (subst (λ (qs : Terms). Growing c.args.c c.args.incs.now c.args.values.now qs c.loop-inc.values) (drop_of_length-le c.args.incs.now l) c.loop-inc.invariant)
