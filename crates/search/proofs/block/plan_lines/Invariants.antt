use Rattle.std.proofs.Common.{◌≡◌, ◌∷◌, ◌++◌, length, map, take}
use Rattle.std.specs.Prelude.{codes}
use Rattle.std.specs.Fmt.{decimal}
use Rattle.patty_run.specs.Printed.{line}
use Rattle.plan_form.specs.Printed.{part_text}
use Rattle.search.proofs.block.plan_lines.Given as goal

abbrev pub invariant-loop-part : goal.invariant-loop-part
invariant-loop-part l = l.lines ≡ line (codes "plan " ++ decimal (length l.parts)) ∷ map (part_text l.task) (take l.part-index l.parts)
