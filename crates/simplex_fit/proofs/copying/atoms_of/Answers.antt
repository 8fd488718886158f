use Rattle.std.proofs.Common.{Option, [], ◌∷◌, ◌++◌, ap, ◌∙◌}
use Rattle.std.specs.Option.{option_copied}
use Rattle.formula.specs.declared.atom.Atom.{Atom}
use Rattle.simplex_fit.proofs.CopyLaws.{atoms_next}
use Rattle.simplex_fit.proofs.copying.atoms_of.Goals as goal

pub loop-b-preserved : goal.loop-b-preserved
loop-b-preserved c =
    c.in_ok-push.ensures.items
    ∙ ap (λ (o : Option Atom). c.loop-b.atoms.items ++ o ∷ []) c.in_ok-copied_where.ensures
    ∙ atoms_next c.args.formula.now.atoms c.loop-b.atoms.items c.loop-b.b (option_copied c.atom.result) c.loop-b.invariant c.atom.ensures.value
