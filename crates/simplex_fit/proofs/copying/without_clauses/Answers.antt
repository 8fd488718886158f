use Rattle.std.proofs.Common.{List, Option, [], ap, ◌∙◌, refl}
use Rattle.std.specs.Option.{option_copied}
use Rattle.formula.specs.declared.atom.Atom.{Atom}
use Rattle.formula.specs.Contents.{Contents, with_boolean}
use Rattle.simplex_fit.proofs.CopyLaws.{atoms_next}
use Rattle.simplex_fit.proofs.copying.without_clauses.Goals as goal

pub loop-b-preserved : goal.loop-b-preserved
loop-b-preserved c =
    c.in_ok-add_boolean.ensures
    ∙ ap (λ (f : Contents). with_boolean (option_copied c.atom.result) f) c.loop-b.invariant
    ∙ ap (λ (atoms : List (Option Atom)). record { counts = c.args.formula.now.counts; atoms = atoms; clauses = [] }) (atoms_next c.args.formula.now.atoms _ c.loop-b.b (option_copied c.atom.result) refl c.atom.ensures.value)
