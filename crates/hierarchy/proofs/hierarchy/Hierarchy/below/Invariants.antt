use Rattle.std.proofs.Common.{◌≡◌, ◌<◌, length}
use Rattle.std.specs.Prelude.{slice_index}
use Rattle.hierarchy.specs.Hierarchy.{is_below}
use Rattle.hierarchy.proofs.hierarchy.Hierarchy.below.Given as goal

-- the climb is at a type that is below u as t is
abbrev pub invariant-climb : goal.invariant-climb
invariant-climb l = record {
  within : l.at < length l.self-inside.parents.items;
  below : is_below l.self-inside.parents.items l.at l.u ≡ is_below l.self-inside.parents.items l.t l.u;
}

abbrev pub decreases-climb : goal.decreases-climb
decreases-climb l = slice_index l.self-inside.depths.items l.at
