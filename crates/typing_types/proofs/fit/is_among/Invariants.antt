use Rattle.std.proofs.Common.{◌≡◌, false, take}
use Rattle.pddl_task.specs.Typed.{is_among}
use Rattle.typing_types.proofs.fit.is_among.Given as goal

abbrev pub invariant-loop-u : goal.invariant-loop-u
invariant-loop-u l = is_among l.hierarchy (take l.u-index l.allowed) l.t ≡ false
