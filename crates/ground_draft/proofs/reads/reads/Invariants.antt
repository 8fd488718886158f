use Rattle.std.proofs.Common.{◌≡◌, ◌++◌, drop}
use Rattle.std.specs.List.{flat_map}
use Rattle.ground_parts.specs.Forms.{setting_in}
use Rattle.ground_draft.specs.inside.Lists.{condition_reads, change_reads}
use Rattle.ground_draft.proofs.reads.reads.Given as goal

abbrev pub invariant-loop-cond : goal.invariant-loop-cond
invariant-loop-cond l = flat_map (condition_reads (setting_in l.given) l.args) l.conds ≡ l.out ++ flat_map (condition_reads (setting_in l.given) l.args) (drop l.cond-index l.conds)

abbrev pub invariant-loop-effect : goal.invariant-loop-effect
invariant-loop-effect l =
    flat_map (condition_reads (setting_in l.given) l.args) l.conds ++ flat_map (change_reads (setting_in l.given) l.args) l.effects
    ≡ l.out ++ flat_map (change_reads (setting_in l.given) l.args) (drop l.effect-index l.effects)
