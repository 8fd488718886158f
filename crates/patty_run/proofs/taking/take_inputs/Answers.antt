use Rattle.std.proofs.Common.{Option, List, ℕ, subst, ◌∙◌}
use Rattle.patty_run.specs.Outside.{files_seen}
use Rattle.patty_run.specs.Files.{IsHeld}
use Rattle.patty_run.proofs.TakingLaws.{held_next, stops_here}
use Rattle.patty_run.proofs.CountLaws.{counts_behind}
use Rattle.patty_run.proofs.taking.take_inputs.Goals as goal

pub loop-named-preserved : goal.loop-named-preserved
loop-named-preserved g c = record {
  held = held_next (files_seen g.F.Shelf.content g.F.Shelf.faults c.args.files.now c.args.files.now) _ _ _ c.loop-named-test.true _ _ c.in-Ok.bytes c.loop-named.invariant.held
      (subst (λ (told : Option (List ℕ)). IsHeld told c.in-Ok.bytes.items) (c.loop-named.invariant.content _) c.in-Ok.ensures.taken) c.in-Ok-push.ensures.items;
  counts = λ of. c.in-Ok.ensures.counts of ∙ c.loop-named.invariant.counts of;
  content = λ of. c.in-Ok.ensures.content of ∙ c.loop-named.invariant.content of;
}

pub returns-in-Err-clause-taken : goal.returns-in-Err-clause-taken
returns-in-Err-clause-taken g c =
    stops_here (files_seen g.F.Shelf.content g.F.Shelf.faults c.args.files.now c.take_input.new.files) _ _ _ c.loop-named-test.true (g.F.Shelf.content c.loop-named.files) (g.F.Shelf.faults c.loop-named.files)
    _ c.in-Err.stop c.loop-named.invariant.held c.loop-named.invariant.content c.loop-named.invariant.counts c.in-Err.ensures.taken

pub returns-in-Err-clause-counts : goal.returns-in-Err-clause-counts
returns-in-Err-clause-counts g c =
    counts_behind (files_seen g.F.Shelf.content g.F.Shelf.faults c.args.files.now c.take_input.new.files) (g.F.Shelf.faults c.loop-named.files) c.in-Err.stop c.loop-named.invariant.counts c.in-Err.ensures.counts

pub returns-in-Err-clause-content : goal.returns-in-Err-clause-content
returns-in-Err-clause-content g c = λ of. c.in-Err.ensures.content of ∙ c.loop-named.invariant.content of
