use Rattle.std.proofs.Common.{◌≡◌, take}
use Rattle.simplex_judge.specs.Stuck.{swaps_of}
use Rattle.simplex_judge.proofs.tracing.listed.Given as goal

abbrev pub invariant-loop-pair : goal.invariant-loop-pair
invariant-loop-pair l = swaps_of l.swaps.items ≡ take l.pair-index l.pairs
