-- A trace from the parts of a check.
use Rattle.std.specs.Prelude.{◌≡◌, ℕ, List, Option}
use Rattle.frac128.specs.declared.operations.Wide.{Wide}
use Rattle.theory_law.specs.declared.trace.Trace.{Trace}
use Rattle.theory_law.specs.declared.trace.Site.{Site}
use Rattle.theory_law.specs.declared.trace.Lemma.{Lemma}
use Rattle.simplex_judge.specs.Stuck.{swaps_of}
use Rattle.simplex_judge.specs.declared.beginning.Begun.{Begun}

pub record IsTraced (b : Begun) (pairs : List (ℕ × ℕ)) (site : Site) (wide : Option Wide) (lemma : Option Lemma) (t : Trace) : Type 0 where
  pub basis : t.basis ≡ b.basis.items
  pub lits : t.lits ≡ b.lits.items
  pub pivots : swaps_of t.pivots ≡ pairs
  pub site_is : t.site ≡ site
  pub wide_is : t.wide ≡ wide
  pub lemma_is : t.lemma ≡ lemma
