use Rattle.std.proofs.Common.{◌≡◌, ◌++◌, drop}
use Rattle.std.specs.List.{flat_map}
use Rattle.ground_parts.specs.Forms.{setting_in}
use Rattle.ground_draft.specs.inside.Lists.{assigned_at}
use Rattle.ground_draft.proofs.reads.assigned.Given as goal

abbrev pub invariant-loop-effect : goal.invariant-loop-effect
invariant-loop-effect l = flat_map (assigned_at (setting_in l.given) l.args) l.effects ≡ l.out ++ flat_map (assigned_at (setting_in l.given) l.args) (drop l.effect-index l.effects)
