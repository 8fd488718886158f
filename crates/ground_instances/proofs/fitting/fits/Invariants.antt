use Rattle.std.proofs.Common.{◌≡◌, false, take}
use Rattle.std.specs.List.{list_any}
use Rattle.hierarchy.specs.Hierarchy.{is_below}
use Rattle.pddl_task.specs.Task.{parents}
use Rattle.ground_instances.proofs.fitting.fits.Given as goal

abbrev pub invariant-loop-t : goal.invariant-loop-t
invariant-loop-t l = list_any (λ t. is_below (parents l.task.types) l.of t) (take l.t-index l.types) ≡ false
