use Rattle.std.proofs.Common.{take}
use Rattle.std.specs.List.{flat_map}
use Rattle.ground_walk.specs.Sightings.{cond_atoms, cond_funcs}
use Rattle.ground_seen.specs.Seen.{Sees}
use Rattle.ground_seen.proofs.leaves.see_conditions.Given as goal

abbrev pub invariant-loop-cond : goal.invariant-loop-cond
invariant-loop-cond l = Sees l.initial.tables l.tables (flat_map (cond_atoms l.task l.args) (take l.cond-index l.conds)) (flat_map (cond_funcs l.task l.args) (take l.cond-index l.conds))
