use Rattle.std.proofs.Common.{◌-◌, length}
use Rattle.hierarchy.specs.inside.Walks.{IsWalk, HasPlaces}
use Rattle.hierarchy.proofs.walking.walk.Given as goal

abbrev pub invariant-walk : goal.invariant-walk
invariant-walk l = record {
  walk : IsWalk l.parents l.circles l.path.items l.start l.at;
  places : HasPlaces l.path.items l.places;
}

abbrev pub decreases-walk : goal.decreases-walk
decreases-walk l = length l.parents - length l.path.items
