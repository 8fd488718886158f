use Rattle.std.proofs.Common.{ℕ, List, [], ◌∷◌, sym, ap₂}
use Rattle.patty_run.specs.Outside.{files_seen}
use Rattle.patty_run.proofs.CountLaws.{same_counts}
use Rattle.patty_run.proofs.DecidingLaws.{two_are, decided_by, stopped}
use Rattle.planner.specs.inside.Answering.{reader}
use Rattle.planner.proofs.Reading.{decides}
use Rattle.planner.proofs.program.read_files.Goals as goal

pub returns-in-Err-clause-caused : goal.returns-in-Err-clause-caused
returns-in-Err-clause-caused g c = stopped _ _ c.in-Err.stop c.in-Err.ensures.taken

pub returns-clause-caused : goal.returns-clause-caused
returns-clause-caused g c =
    let files = two_are _ c.domain-item.result c.problem-item.result c.in-len2.len_at_least c.in-len2.len_below c.domain-item.is c.problem-item.is in
    let contents = ap₂ (λ (x y : List ℕ). x ∷ y ∷ []) (sym c.deref.ensures.value) (sym c.deref-2.ensures.value) in
    decided_by (files_seen g.F.Shelf.content g.F.Shelf.faults c.args.files.now c.take_inputs.new.files) _ reader _ _ _ _ _ _ c.read_task.result c.as_slice.ensures.value files contents c.in-Ok.ensures.taken (decides _ _ c.read_task.result c.read_task.ensures)

pub returns-clause-counts : goal.returns-clause-counts
returns-clause-counts g c = same_counts (files_seen g.F.Shelf.content g.F.Shelf.faults c.args.files.now c.take_inputs.new.files) c.read_task.result c.in-Ok.ensures.counts
