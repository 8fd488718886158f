use Rattle.std.proofs.Common.{◌≡◌, ◌-◌, map, drop}
use Rattle.kw_table.specs.Table.{rises}
use Rattle.kw_table.proofs.table.Words.sorted.Given as goal

abbrev pub invariant-loop-at : goal.invariant-loop-at
invariant-loop-at g l = rises (drop (l.at - 1) (map g.W.AsStr.text l.self.words)) ≡ rises (map g.W.AsStr.text l.self.words)
