use Rattle.std.proofs.Common.{◌<◌, length, drop}
use Rattle.encode_rows.specs.Lasting.{last_rows_at}
use Rattle.encode_rows.proofs.ComparisonLaws.{Ahead}
use Rattle.encode_rows.proofs.lasting.compare_all_last.Given as goal

abbrev pub invariant-loop-comparison : goal.invariant-loop-comparison
invariant-loop-comparison l = record {
  ahead : Ahead l.initial.formula l.symbols l.front (last_rows_at l.incs l.c l.comparisons) (last_rows_at l.incs l.c (drop l.comparison-index l.comparisons)) l.formula;
  known : l.c < length l.formula.counts;
}
