use Rattle.std.proofs.Common.{◌∙◌, List, sym, subst}
use Rattle.rational.specs.Linear.{Terms}
use Rattle.lin.specs.Linear.{Linear}
use Rattle.lin.specs.declared.comparison.Cmp.{Cmp}
use Rattle.encode_rows.specs.Symbols.{MakesRows}
use Rattle.encode_rows.specs.Lasting.{last_rows_at}
use Rattle.encode.proofs.OccurringLaws.{rolled-by, unrolled-by}
use Rattle.encode.proofs.occurring.compare_rolled.Goals as goal

pub returns-then-rollable : goal.returns-then-rollable
returns-then-rollable c =
    rolled-by c.args.formula.now c.args.symbols.now c.args.front c.args.a.now c.args.c c.compare_all_last.new.formula c.compare_all_last.result (sym c.rollable.ensures ∙ c.if-rollable.true)
    (subst (λ (qs : Terms). MakesRows c.args.formula.now c.args.symbols.now c.args.front (last_rows_at qs c.args.c c.args.a.now.cmps) c.compare_all_last.new.formula c.compare_all_last.result) c.as_slice-incs.ensures
    (subst (λ (ks : List (Linear × Cmp)). MakesRows c.args.formula.now c.args.symbols.now c.args.front (last_rows_at c.as_slice-incs.result.now c.args.c ks) c.compare_all_last.new.formula c.compare_all_last.result) c.as_slice-cmps.ensures
    c.compare_all_last.ensures))

pub returns-else-rollable : goal.returns-else-rollable
returns-else-rollable c = unrolled-by c.args.formula.now c.args.symbols.now c.args.front c.args.a.now c.args.c (Unit {0}) tt (sym c.rollable.ensures ∙ c.if-rollable.false)
