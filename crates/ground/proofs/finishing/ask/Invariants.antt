use Rattle.std.proofs.Common.{◌≡◌, ℕ, ◌++◌, true, map, take}
use Rattle.ground.specs.inside.Concluding.{mark_at}
use Rattle.ground.proofs.finishing.ask.Given as goal

abbrev pub invariant-loop-f : goal.invariant-loop-f
invariant-loop-f l = l.lits ≡ l.initial.lits ++ map (λ (f : ℕ). (mark_at l.marks.atoms.now l.marks.last f, true)) (take l.f-index l.reads)
