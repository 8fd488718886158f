use Rattle.std.proofs.Common.{◌≡◌, ◌++◌, map, length, reverse}
use Rattle.ground.specs.inside.Concluding.{mark_at, finished_at}
use Rattle.ground.proofs.finishing.finish_all.Given as goal

abbrev pub invariant-drafts : goal.invariant-drafts
invariant-drafts l = map (finished_at (mark_at l.marks.atoms.now l.marks.last)) l.initial.drafts ≡ map (finished_at (mark_at l.marks.atoms.now l.marks.last)) l.drafts ++ reverse l.actions.items

abbrev pub decreases-drafts : goal.decreases-drafts
decreases-drafts l = length l.drafts
