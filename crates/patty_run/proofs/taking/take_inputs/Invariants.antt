use Rattle.std.proofs.Common.{◌≡◌, ℕ, List, map, take}
use Rattle.patty_run.specs.Inputs.{file_of}
use Rattle.patty_run.specs.Files.{AreHeld}
use Rattle.patty_run.specs.Taken.{contents_of}
use Rattle.patty_run.proofs.taking.take_inputs.Given as goal

abbrev pub invariant-loop-named : goal.invariant-loop-named
invariant-loop-named g l = record {
  held : AreHeld (g.F.Shelf.content l.initial.files) (map file_of (take l.named-index l.inputs)) (contents_of l.all.items);
  counts : (of : List ℕ) → g.F.Shelf.faults l.files of ≡ g.F.Shelf.faults l.initial.files of;
  content : (of : List ℕ) → g.F.Shelf.content l.files of ≡ g.F.Shelf.content l.initial.files of;
}
