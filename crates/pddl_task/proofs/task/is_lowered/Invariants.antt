use Rattle.std.proofs.Common.{◌≡◌, map, drop}
use Rattle.std.specs.Prelude.{bytes_eq}
use Rattle.std.specs.Char.{to_ascii_lowercase}
use Rattle.pddl_task.proofs.task.is_lowered.Given as goal

abbrev pub invariant-loop-i : goal.invariant-loop-i
invariant-loop-i l = bytes_eq (drop l.i l.lowered) (drop l.i (map to_ascii_lowercase l.text)) ≡ bytes_eq l.lowered (map to_ascii_lowercase l.text)
