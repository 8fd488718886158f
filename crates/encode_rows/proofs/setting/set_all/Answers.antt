use Rattle.std.proofs.Common.{◌≡◌, ◌∙◌, ◌≤◌, ◌+◌, ◌∷◌, ℕ, length, drop, ap, sym, arith}
use Rattle.std.proofs.lemmas.Result.{err_from_is_err_and}
use Rattle.std.proofs.lemmas.List.{drop_more}
use Rattle.lin.specs.Linear.{Linear}
use Rattle.encode_rows.proofs.SettingLaws.{sets-start, sets-step, sets-stop, sets-end}
use Rattle.encode_rows.proofs.setting.set_all.Goals as goal

pub loop-set-init : goal.loop-set-init
loop-set-init c = sets-start c.args.formula.now c.args.symbols.now c.args.on c.args.sets.now c.requires.state

pub set_one-requires-clause-state : goal.set_one-requires-clause-state
set_one-requires-clause-state c = c.loop-set.invariant.state

pub loop-set-preserved : goal.loop-set-preserved
loop-set-preserved c =
    let at : drop c.loop-set.set-index c.args.sets.now ≡ c.set-item.result ∷ drop (c.loop-set.set-index + 1) c.args.sets.now =
    drop_more c.args.sets.now c.loop-set.set-index c.set-item.result c.loop-set-test.true ∙ ap (λ (z : ℕ × Linear). z ∷ drop (c.loop-set.set-index + 1) c.args.sets.now) (sym c.set-item.is) in
    sets-step c.args.formula.now c.args.symbols.now c.args.on c.args.sets.now c.loop-set.set-index c.set-item.result at c.loop-set.formula c.set_one.new.formula c.loop-set.invariant (Unit {0}) tt
    c.in_ok-set_one.ensures.makes c.in_ok-set_one.ensures.more

pub returns-in_err-set_one : goal.returns-in_err-set_one
returns-in_err-set_one c =
    let p = err_from_is_err_and c.from_residual.result c.from_residual.ensures.1 in
    let at : drop c.loop-set.set-index c.args.sets.now ≡ c.set-item.result ∷ drop (c.loop-set.set-index + 1) c.args.sets.now =
    drop_more c.args.sets.now c.loop-set.set-index c.set-item.result c.loop-set-test.true ∙ ap (λ (z : ℕ × Linear). z ∷ drop (c.loop-set.set-index + 1) c.args.sets.now) (sym c.set-item.is) in
    rw (p.1, p.2)
    (sets-stop c.args.formula.now c.args.symbols.now c.args.on c.args.sets.now c.loop-set.set-index c.set-item.result at c.loop-set.formula c.set_one.new.formula c.loop-set.invariant (Unit {0}) (Unit {0})
    c.in_err-set_one.field-0.0 c.in_err-set_one.ensures.makes)

pub returns : goal.returns
returns c =
    let l : length c.args.sets.now ≤ c.loop-set.set-index = omega arith in
    sets-end c.args.formula.now c.args.symbols.now c.args.on c.args.sets.now c.loop-set.set-index l c.loop-set.formula (Unit {0}) tt c.loop-set.invariant
