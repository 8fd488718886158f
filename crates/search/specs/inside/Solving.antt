-- What comes of solving one formula: a log, with its lines, and what stands behind it.
use Rattle.std.specs.Prelude.{◌≡◌, ℕ, ◌≤◌, Bool, List, map, length, Option}
use Rattle.formula.specs.declared.atom.Lit.{Lit}
use Rattle.formula.specs.declared.atom.Atom.{Atom}
use Rattle.formula.specs.Contents.{Contents}
use Rattle.formula.specs.Meets.{IsSolution}
use Rattle.theory_law.specs.declared.trace.Coefs.{Coefs}
use Rattle.theory_law.specs.declared.trace.Trace.{Trace}
use Rattle.theory_law.specs.Log.{IsSoundLog, after_log, HasEmpty}
use Rattle.theory_law.specs.Licence.{IsLicensedLog}
use Rattle.farkas_law.specs.Lemma.{IsShown}
use Rattle.cert_form.specs.Spelling.{step_line}
use Rattle.planner_text.specs.declared.limits.Limits.{Limits}
use Rattle.planner_text.specs.Text.{Log, StopsAt}
use Rattle.search.specs.declared.solving.Attempt.{Attempt}
use Rattle.search.specs.declared.solving.Came.{Came}
use Rattle.search.specs.declared.solving.Came.TheVariants.{Refuted, Solution, Spent, Stuck}

-- ---- what is asked of a theory

-- what it shows is a lemma
abbrev pub ShowsLemmas : (List Bool → List (Option Atom) → List Lit → Coefs → Type 0) → Type 0
ShowsLemmas Shown = (counts : List Bool) (atoms : List (Option Atom)) (clause : List Lit) (why : Coefs) → Shown counts atoms clause why → IsShown counts atoms clause why

-- a check is stuck only where the pivots are spent or an operation passes
abbrev pub StopsInTime : Limits → (List Bool → List (Option Atom) → ℕ → Trace → Type 0) → Type 0
StopsInTime limits Sticks = (counts : List Bool) (atoms : List (Option Atom)) (t : Trace) → Sticks counts atoms limits.pivots t → StopsAt limits t.site t

-- ---- what came

abbrev pub CameTo : Limits → Contents → Log → Came → Type 0
CameTo limits f log Refuted = HasEmpty (after_log f log)
CameTo limits f log (Solution p) = IsSolution f p
CameTo limits f log Spent = (length log ≡ limits.steps) × (HasEmpty (after_log f log) → ⊥)
CameTo limits f log (Stuck t) = StopsAt limits t.site t

pub record IsAttempt (limits : Limits) (f : Contents) (a : Attempt) : Type 0 where
  pub log : Log
  pub lines : a.lines ≡ map step_line log
  pub sound : IsSoundLog IsShown f log
  pub licensed : IsLicensedLog f log
  pub few : length log ≤ limits.steps
  pub came : CameTo limits f log a.came
