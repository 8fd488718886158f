use Rattle.std.proofs.Common.{◌≡◌, length}
use Rattle.bound_theory.proofs.guessing.guess.Given as goal

abbrev pub invariant-loop-var : goal.invariant-loop-var
invariant-loop-var l = length l.values ≡ l.var
