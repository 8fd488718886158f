-- The lemma of a clash: a clause of opposites of asserted literals, shown by Farkas.
use Rattle.std.specs.Prelude.{◌≡◌, true, List, length, All}
use Rattle.std.specs.List.{Contains}
use Rattle.formula.specs.declared.atom.Lit.{Lit}
use Rattle.formula.specs.Contents.{Contents, is_clause}
use Rattle.formula.specs.Reading.{opposite}
use Rattle.farkas_law.specs.Lemma.{IsShown}
use Rattle.theory_law.specs.declared.trace.Lemma.{Lemma}

-- its literals stand in rising order of their Booleans
pub record IsLemmaOf (f : Contents) (lits : List Lit) (m : Lemma) : Type 0 where
  pub rises : is_clause (length f.atoms) m.clause ≡ true
  pub asserted : All (λ l. Contains lits (opposite l)) m.clause
  pub shown : IsShown f.counts f.atoms m.clause m.coefs
