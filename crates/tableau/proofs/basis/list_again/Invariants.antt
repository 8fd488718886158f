use Rattle.tableau.specs.inside.Basis.{flag}
use Rattle.tableau.proofs.Listing.{IsWriting}
use Rattle.tableau.proofs.basis.list_again.Given as goal

abbrev pub invariant-loop-v : goal.invariant-loop-v
invariant-loop-v l = IsWriting (flag l.basic) l.v l.k l.into
