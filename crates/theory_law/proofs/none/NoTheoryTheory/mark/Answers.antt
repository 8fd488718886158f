use Rattle.std.proofs.Common.{arith, Option, None}
use Rattle.std.proofs.lemmas.List.{length-replicate}
use Rattle.formula.specs.declared.atom.Atom.{Atom}
use Rattle.theory_law.proofs.Marks.{marks_replicate}
use Rattle.theory_law.proofs.none.NoTheoryTheory.mark.Goals as goal

pub returns-else-self-booleans : goal.returns-else-self-booleans
returns-else-self-booleans c =
    let none : Option Atom = None in
    absurd (omega (arith, c.requires, marks_replicate c.args.self.now.marks, length-replicate c.args.self.now.booleans none))
