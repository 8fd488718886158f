use Rattle.std.proofs.Common.{take}
use Rattle.std.specs.List.{flat_map}
use Rattle.ground_walk.specs.Sightings.{effect_atoms, effect_funcs}
use Rattle.ground_seen.specs.Seen.{Sees}
use Rattle.ground_seen.proofs.leaves.see_effects.Given as goal

abbrev pub invariant-loop-effect : goal.invariant-loop-effect
invariant-loop-effect l = Sees l.initial.tables l.tables (flat_map (effect_atoms l.args) (take l.effect-index l.effs)) (flat_map (effect_funcs l.task l.args) (take l.effect-index l.effs))
