use Rattle.std.proofs.Common.{◌≡◌, take}
use Rattle.theory_law.specs.Seen.{with_asserted}
use Rattle.clause_core.specs.Solving.{events}
use Rattle.clause_core.proofs.tell.tell.Given as goal

abbrev pub invariant-loop-i : goal.invariant-loop-i
invariant-loop-i g l = g.T.Theory.seen l.theory ≡ with_asserted (g.T.Theory.seen l.initial.theory) (events l.formula.atoms (take l.i l.trail.entries))
