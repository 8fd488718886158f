use Rattle.std.proofs.Common.{◌-◌, length}
use Rattle.plan_text.specs.inside.Tables.{names_in}
use Rattle.plan_text.proofs.LinesLaws.{LinesSoFar}
use Rattle.plan_text.proofs.reading.read_lines.Given as goal

abbrev pub invariant-lines : goal.invariant-lines
invariant-lines l = LinesSoFar (names_in l.tables) l.bytes l.at l.reading

abbrev pub decreases-lines : goal.decreases-lines
decreases-lines l = length l.bytes - l.at
