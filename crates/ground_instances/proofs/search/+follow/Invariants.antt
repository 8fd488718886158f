use Rattle.std.proofs.Common.{length, ◌-◌}
use Rattle.ground_instances.proofs.search.+follow.Given as goal

abbrev pub decreases-follow : goal.decreases-follow
decreases-follow l = length l.args.now - l.at
