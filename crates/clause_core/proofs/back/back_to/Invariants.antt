use Rattle.std.proofs.Common.{◌≡◌, ◌≤◌, length, take}
use Rattle.theory_law.specs.Seen.{with_asserted}
use Rattle.clause_core.specs.Solving.{IsSane, IsTold}
use Rattle.clause_core.proofs.back.back_to.Given as goal

abbrev pub invariant-loop-place : goal.invariant-loop-place
invariant-loop-place g l = record {
  sane : IsSane l.formula.clauses l.formula.atoms l.trail.entries;
  told : IsTold l.formula.atoms (g.T.Theory.seen l.theory).asserted l.told l.trail.entries;
  seen : g.T.Theory.seen l.theory ≡ with_asserted (g.T.Theory.seen l.initial.theory) (g.T.Theory.seen l.theory).asserted;
  booleans : l.trail.booleans ≡ l.initial.trail.booleans;
  short : length l.trail.entries ≤ length l.initial.trail.entries;
  shorter : l.trail.entries ≡ take (length l.trail.entries) l.initial.trail.entries;
}

abbrev pub decreases-loop-place : goal.decreases-loop-place
decreases-loop-place g l = length l.trail.entries
