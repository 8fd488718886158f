-- Where the theory gives up.
use Rattle.std.specs.Prelude.{◌≡◌, [], None}
use Rattle.theory_law.specs.declared.trace.Trace.{Trace}
use Rattle.theory_law.specs.declared.trace.Site.TheVariants.{Pivots}

-- nothing is said of how
pub record IsStuck (t : Trace) : Type 0 where
  pub lits : t.lits ≡ []
  pub wide : t.wide ≡ None
  pub lemma : t.lemma ≡ None
  pub site : t.site ≡ Pivots
