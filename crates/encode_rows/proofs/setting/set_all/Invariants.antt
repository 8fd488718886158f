use Rattle.std.proofs.Common.{length, drop}
use Rattle.encode_rows.specs.Setting.{set_list}
use Rattle.encode_rows.proofs.ComparisonLaws.{Ahead}
use Rattle.encode_rows.proofs.setting.set_all.Given as goal

abbrev pub invariant-loop-set : goal.invariant-loop-set
invariant-loop-set l = Ahead l.initial.formula l.symbols l.on (set_list (length l.initial.formula.counts) l.sets) (set_list (length l.formula.counts) (drop l.set-index l.sets)) l.formula
