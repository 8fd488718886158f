use Rattle.std.proofs.Common.{drop}
use Rattle.encode_rows.specs.Symbols.{first_rows}
use Rattle.encode_rows.proofs.ComparisonLaws.{Ahead}
use Rattle.encode_rows.proofs.comparison.compare_all.Given as goal

abbrev pub invariant-loop-comparison : goal.invariant-loop-comparison
invariant-loop-comparison l = Ahead l.initial.formula l.symbols l.front (first_rows l.comparisons) (first_rows (drop l.comparison-index l.comparisons)) l.formula
