-- What a check of the simplex answers.
use Rattle.std.specs.Prelude.{◌≡◌, ℕ, Bool, true, List, length, Option}
use Rattle.std.specs.Option.{ForSome}
use Rattle.formula.specs.declared.atom.Lit.{Lit}
use Rattle.formula.specs.declared.atom.Atom.{Atom}
use Rattle.formula.specs.Contents.{Contents}
use Rattle.farkas_law.specs.Lemma.{bare}
use Rattle.theory_law.specs.Seen.{Seen}
use Rattle.theory_law.specs.Verdicts.{VerdictHolds}
use Rattle.theory_law.specs.declared.trace.Trace.{Trace}
use Rattle.simplex_judge.specs.declared.judging.Judged.{Judged}
use Rattle.simplex_judge.specs.Lemmas.{IsSummed}
use Rattle.simplex_judge.specs.Stuck.{IsStuck}

-- a formula, a number of pivots and what is asserted, as a theory shows them
abbrev pub seen_of : Contents → ℕ → List (Option Lit) → Seen
seen_of f pivots events = record { counts = f.counts; atoms = f.atoms; pivots = pivots; asserted = events }

-- a trace that is stuck over these counts and atoms
abbrev pub StuckOver : List Bool → List (Option Atom) → ℕ → Trace → Type 0
StuckOver counts atoms pivots t = IsStuck (bare counts atoms) pivots t

-- the verdict holds with the point, which has a value for each variable
pub record JudgedHolds (f : Contents) (pivots : ℕ) (events : List (Option Lit)) (full : Bool) (j : Judged) : Type 0 where
  pub verdict : VerdictHolds IsSummed true (seen_of f pivots events) full j.point j.verdict
  pub sized : ForSome j.point (λ values. length values ≡ length f.counts)
