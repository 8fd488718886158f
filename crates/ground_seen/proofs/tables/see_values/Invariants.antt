use Rattle.std.proofs.Common.{◌≡◌, take}
use Rattle.std.specs.List.{flat_map}
use Rattle.ground_walk.specs.Walk.{given_funcs}
use Rattle.ground_seen.specs.Seen.{seen}
use Rattle.ground_seen.proofs.tables.see_values.Given as goal

abbrev pub invariant-loop-given : goal.invariant-loop-given
invariant-loop-given l = l.funcs ≡ seen l.initial.funcs (flat_map (given_funcs l.task) (take l.given-index l.values))
