use Rattle.std.proofs.Common.{◌≡◌, ◌+◌, ◌++◌, drop}
use Rattle.planner_text.specs.Lines.{place_lines, pattern_lines}
use Rattle.search.proofs.head.pattern_lines.Given as goal

abbrev pub invariant-loop-i : goal.invariant-loop-i
invariant-loop-i l = l.lines ++ place_lines l.task (l.i + 1) (drop l.i l.places) ≡ pattern_lines l.task l.places
