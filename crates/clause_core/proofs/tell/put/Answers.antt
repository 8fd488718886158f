use Rattle.std.proofs.Common.{List, Option, ap, ◌∙◌}
use Rattle.std.specs.List.{slice_get}
use Rattle.formula.specs.declared.atom.Atom.{Atom}
use Rattle.clause_core.proofs.tell.put.Goals as goal

pub put-requires-clause-atom : goal.put-requires-clause-atom
put-requires-clause-atom g c =
    (c.in-Some._atom.now, ap (λ (x : List (Option Atom)). slice_get x c.args.lit.boolean) c.requires.atoms ∙ c.in-Some.ensures.value)
