use Rattle.std.proofs.Common.{◌≤◌, length, refl, subst, arith}
use Rattle.std.specs.Prelude.{Ok, Err}
use Rattle.std.proofs.lemmas.Result.{err_from_is_err_and}
use Rattle.lin.specs.Linear.{Linear}
use Rattle.lin.specs.declared.comparison.Cmp.{Cmp}
use Rattle.encode_rows.specs.Symbols.{MakesRows, first_row, first_rows}
use Rattle.encode_rows.proofs.ComparisonLaws.{ahead-start, loop-step, loop-stop, loop-end}
use Rattle.encode_rows.proofs.comparison.compare_all.Goals as goal

pub loop-comparison-init : goal.loop-comparison-init
loop-comparison-init c = ahead-start c.args.formula.now c.args.symbols.now c.args.front (first_rows c.args.comparisons.now) c.requires.state

pub compare_first-requires-clause-state : goal.compare_first-requires-clause-state
compare_first-requires-clause-state c = c.loop-comparison.invariant.state

pub loop-comparison-preserved : goal.loop-comparison-preserved
loop-comparison-preserved c =
    loop-step c.args.formula.now c.args.symbols.now c.args.front first_rows first_row (λ z zs. refl) c.args.comparisons.now c.loop-comparison.comparison-index c.comparison-item.result c.loop-comparison-test.true
    c.loop-comparison.formula c.compare_first.new.formula c.loop-comparison.invariant (Unit {0}) tt
    (subst (λ (z : Linear × Cmp). MakesRows {X = Unit {0}} c.loop-comparison.formula c.args.symbols.now c.args.front (first_row z) c.compare_first.new.formula (Ok tt)) c.comparison-item.is c.in_ok-compare_first.ensures)

pub returns-in_err-compare_first : goal.returns-in_err-compare_first
returns-in_err-compare_first c =
    let p = err_from_is_err_and c.from_residual.result c.from_residual.ensures.1 in
    rw (p.1, p.2)
    (loop-stop c.args.formula.now c.args.symbols.now c.args.front first_rows first_row (λ z zs. refl) c.args.comparisons.now c.loop-comparison.comparison-index c.comparison-item.result c.loop-comparison-test.true
    c.loop-comparison.formula c.compare_first.new.formula c.loop-comparison.invariant (Unit {0}) (Unit {0}) c.in_err-compare_first.field-0.0
    (subst (λ (z : Linear × Cmp). MakesRows {X = Unit {0}} c.loop-comparison.formula c.args.symbols.now c.args.front (first_row z) c.compare_first.new.formula (Err c.in_err-compare_first.field-0.0)) c.comparison-item.is c.in_err-compare_first.ensures))

pub returns : goal.returns
returns c =
    let l : length c.args.comparisons.now ≤ c.loop-comparison.comparison-index = omega arith in
    loop-end c.args.formula.now c.args.symbols.now c.args.front first_rows first_row (λ z zs. refl) c.args.comparisons.now refl c.loop-comparison.comparison-index l c.loop-comparison.formula (Unit {0}) tt c.loop-comparison.invariant
