use Rattle.std.proofs.Common.{◌≡◌, drop}
use Rattle.std.specs.Prelude.{is_some}
use Rattle.relaxed.specs.Range.{picks}
use Rattle.relaxed.specs.Layers.{box}
use Rattle.relaxed.specs.inside.Kept.{layer_of}
use Rattle.relaxed.proofs.range.is_bounded.Given as goal

-- the terms that are left decide
abbrev pub invariant-loop-i : goal.invariant-loop-i
invariant-loop-i l = is_some (picks l.side (box (layer_of l.table)) (drop l.i l.l.terms)) ≡ is_some (picks l.side (box (layer_of l.table)) l.l.terms)
