use Rattle.std.proofs.Common.{drop}
use Rattle.encode_rows.specs.Symbols.{asked_rows}
use Rattle.encode_rows.proofs.ComparisonLaws.{Ahead}
use Rattle.encode_rows.proofs.row.ask_all.Given as goal

abbrev pub invariant-loop-literal : goal.invariant-loop-literal
invariant-loop-literal l = Ahead l.initial.formula l.symbols l.front (asked_rows l.literals) (asked_rows (drop l.literal-index l.literals)) l.formula
