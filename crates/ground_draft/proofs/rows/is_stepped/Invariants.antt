use Rattle.std.proofs.Common.{◌≡◌, drop}
use Rattle.std.specs.List.{list_all}
use Rattle.ground_draft.specs.inside.Acts.{step_by}
use Rattle.ground_draft.proofs.rows.is_stepped.Given as goal

abbrev pub invariant-loop-next : goal.invariant-loop-next
invariant-loop-next l = list_all (step_by l.func) l.moves ≡ list_all (step_by l.func) (drop l.next-index l.moves)
