use Rattle.std.proofs.Common.{List, Bool, false}
use Rattle.formula.specs.declared.atom.Atom.{Atom}
use Rattle.theory_law.proofs.Atomless.{atomless_next, mine, starts}
use Rattle.theory_law.proofs.none.NoTheoryTheory.start.Goals as goal

pub loop-b-preserved : goal.loop-b-preserved
loop-b-preserved c = atomless_next c.args.formula.now.atoms c.loop-b.b c.loop-b.invariant c.in-None.ensures.value

pub returns-in-Some : goal.returns-in-Some
returns-in-Some c = record {
  atom = c.in-Some._atom.now;
  has = c.in-Some.ensures.value;
  foreign = λ h. cc;
  first = λ i a lt at. mine (λ (counts : List Bool) (atom : Atom). false) c.args.formula.now.counts a (c.loop-b.invariant i lt a at);
}

pub returns : goal.returns
returns c = starts _ c.args.formula.now c.args.pivots c.booleans-booleans.result c.loop-b.b c.in_ok-counts_of.field-0 c.loop-b.invariant c.booleans-booleans.ensures c.loop-b-test.false c.in_ok-counts_of.ensures
