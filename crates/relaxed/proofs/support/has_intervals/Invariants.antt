use Rattle.std.proofs.Common.{◌≡◌, drop}
use Rattle.std.specs.List.{list_all}
use Rattle.task_core.specs.Task.{numbers, variables}
use Rattle.relaxed.specs.Layers.{has_interval}
use Rattle.relaxed.specs.inside.Kept.{layer_of}
use Rattle.relaxed.proofs.support.has_intervals.Given as goal

-- the terms that are left decide
abbrev pub invariant-loop-i : goal.invariant-loop-i
invariant-loop-i l = list_all (has_interval (layer_of l.table)) (numbers (drop l.i l.l.terms)) ≡ list_all (has_interval (layer_of l.table)) (variables l.l)
