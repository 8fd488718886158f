-- Logs: lemmas that a theory shows, clauses that follow by units, and splits. The formula so far is a formula, with the
-- clauses and the atoms of the steps behind its own, so solver, judge and text speak of one thing.
use Rattle.std.specs.Prelude.{◌≡◌, Bool, true, List, [], ◌∷◌, map, length, Option, Some}
use Rattle.std.specs.List.{Contains}
use Rattle.formula.specs.declared.atom.Lit.{Lit}
use Rattle.formula.specs.declared.atom.Atom.{Atom}
use Rattle.formula.specs.Contents.{Contents, is_clause, with_clause, with_boolean}
use Rattle.theory_law.specs.Splits.{CanSplit, at_most}
use Rattle.formula.specs.Reading.{opposite}
use Rattle.theory_law.specs.declared.log.LogStep.{LogStep}
use Rattle.theory_law.specs.declared.log.LogStep.TheVariants.{Lemma, Learn, Split}
use Rattle.theory_law.specs.Units.{Follows}

-- ---- the formula after a step

abbrev pub after : {W : Type 0} → Contents → LogStep W → Contents
after f (Lemma c why) = with_clause c f
after f (Learn c hints) = with_clause c f
after f (Split b var k point) = with_boolean (Some (at_most var k)) f

abbrev pub after_log : {W : Type 0} → Contents → List (LogStep W) → Contents
after_log f [] = f
after_log f (s ∷ log) = after_log (after f s) log

-- ---- sound logs

-- what a step asks of the formula so far, where `Shown` is the theory's relation over counts, atoms, clause and evidence
abbrev pub IsSound : {W : Type 0} → (List Bool → List (Option Atom) → List Lit → W → Type 0) → Contents → LogStep W → Type 0
IsSound Shown f (Lemma c why) = (is_clause (length f.atoms) c ≡ true) × Shown f.counts f.atoms c why
IsSound Shown f (Learn c hints) = (is_clause (length f.atoms) c ≡ true) × Follows f.clauses (map opposite c) hints
IsSound Shown f (Split b var k point) = (b ≡ length f.atoms) × CanSplit f.counts var k

-- each step stands on the formula and the steps before it
abbrev pub IsSoundLog : {W : Type 0} → (List Bool → List (Option Atom) → List Lit → W → Type 0) → Contents → List (LogStep W) → Type 0
IsSoundLog Shown f [] = Unit {0}
IsSoundLog Shown f (s ∷ log) = IsSound Shown f s × IsSoundLog Shown (after f s) log

-- the empty clause stands: no point meets the formula. A log derives it where the formula after it has it
abbrev pub HasEmpty : Contents → Type 0
HasEmpty f = Contains f.clauses []
