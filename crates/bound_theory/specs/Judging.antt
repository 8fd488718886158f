-- What is seen of the theory, and what it answers.
use Rattle.std.specs.Prelude.{◌≡◌, Bool, true, Some, length}
use Rattle.theory_law.specs.Seen.{Seen}
use Rattle.theory_law.specs.Verdicts.{VerdictHolds}
use Rattle.bound_theory.specs.declared.theory.Bounds.{Bounds}
use Rattle.bound_theory.specs.declared.theory.Judged.{Judged}
use Rattle.bound_theory.specs.Bounds.{IsBoundLemma}

abbrev pub seen_of : Bounds → Seen
seen_of t = record { counts = t.formula.counts; atoms = t.formula.atoms; pivots = t.pivots; asserted = t.asserted.events }

pub record JudgedHolds (t : Bounds) (full : Bool) (j : Judged) : Type 0 where
  pub verdict : VerdictHolds IsBoundLemma true (seen_of t) full (Some j.values) j.verdict
  pub sized : length j.values ≡ length t.formula.counts
