use Rattle.std.proofs.Common.{◌≤◌, length, refl, subst, arith}
use Rattle.std.specs.Prelude.{Ok, Err}
use Rattle.std.proofs.lemmas.Result.{err_from_is_err_and}
use Rattle.lin.specs.Linear.{Linear}
use Rattle.lin.specs.declared.comparison.Cmp.{Cmp}
use Rattle.encode_rows.specs.Symbols.{MakesRows}
use Rattle.encode_rows.specs.Lasting.{last_row, last_rows_at}
use Rattle.encode_rows.proofs.ComparisonLaws.{ahead-start, loop-step, loop-stop, loop-end}
use Rattle.encode_rows.proofs.LastingLaws.{state-known}
use Rattle.encode_rows.proofs.lasting.compare_all_last.Goals as goal

pub loop-comparison-init : goal.loop-comparison-init
loop-comparison-init c = record {
  ahead = ahead-start c.args.formula.now c.args.symbols.now c.args.front (last_rows_at c.args.incs.now c.args.c c.args.comparisons.now) c.requires.state;
  known = c.requires.known;
}

pub compare_last-requires-clause-state : goal.compare_last-requires-clause-state
compare_last-requires-clause-state c = c.loop-comparison.invariant.ahead.state

pub loop-comparison-preserved : goal.loop-comparison-preserved
loop-comparison-preserved c =
    let made = subst (λ (z : Linear × Cmp). MakesRows {X = Unit {0}} c.loop-comparison.formula c.args.symbols.now c.args.front (last_row c.args.incs.now c.args.c z) c.compare_last.new.formula (Ok tt)) c.comparison-item.is c.in_ok-compare_last.ensures in
    record {
      ahead = loop-step c.args.formula.now c.args.symbols.now c.args.front (last_rows_at c.args.incs.now c.args.c) (last_row c.args.incs.now c.args.c) (λ z zs. refl) c.args.comparisons.now c.loop-comparison.comparison-index
          c.comparison-item.result c.loop-comparison-test.true c.loop-comparison.formula c.compare_last.new.formula c.loop-comparison.invariant.ahead (Unit {0}) tt made;
      known = state-known c.loop-comparison.formula c.compare_last.new.formula c.args.symbols.now c.args.front (last_row c.args.incs.now c.args.c c.comparison-item.result) (Unit {0}) tt c.args.c
          c.loop-comparison.invariant.ahead.state c.in_ok-compare_last.ensures c.loop-comparison.invariant.known;
    }

pub returns-in_err-compare_last : goal.returns-in_err-compare_last
returns-in_err-compare_last c =
    let p = err_from_is_err_and c.from_residual.result c.from_residual.ensures.1 in
    rw (p.1, p.2)
    (loop-stop c.args.formula.now c.args.symbols.now c.args.front (last_rows_at c.args.incs.now c.args.c) (last_row c.args.incs.now c.args.c) (λ z zs. refl) c.args.comparisons.now c.loop-comparison.comparison-index
    c.comparison-item.result c.loop-comparison-test.true c.loop-comparison.formula c.compare_last.new.formula c.loop-comparison.invariant.ahead (Unit {0}) (Unit {0}) c.in_err-compare_last.field-0.0
    (subst (λ (z : Linear × Cmp). MakesRows {X = Unit {0}} c.loop-comparison.formula c.args.symbols.now c.args.front (last_row c.args.incs.now c.args.c z) c.compare_last.new.formula (Err c.in_err-compare_last.field-0.0)) c.comparison-item.is c.in_err-compare_last.ensures))

pub returns : goal.returns
returns c =
    let l : length c.args.comparisons.now ≤ c.loop-comparison.comparison-index = omega arith in
    loop-end c.args.formula.now c.args.symbols.now c.args.front (last_rows_at c.args.incs.now c.args.c) (last_row c.args.incs.now c.args.c) (λ z zs. refl) c.args.comparisons.now refl c.loop-comparison.comparison-index l
    c.loop-comparison.formula (Unit {0}) tt c.loop-comparison.invariant.ahead
