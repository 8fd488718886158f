use Rattle.std.proofs.Common.{Bool, None, subst}
use Rattle.std.proofs.lemmas.List.{get_or_read}
use Rattle.simplex_atoms.specs.inside.Noting.{TighterAnswers}
use Rattle.simplex_atoms.proofs.Tight.{not_noted}
use Rattle.simplex_atoms.proofs.tightening.note.Goals as goal

pub returns-else-is_tighter : goal.returns-else-is_tighter
returns-else-is_tighter c =
    not_noted c.args.pos c.args.v c.args.b c.args.boolean c.args.bounds.now.items c.args.by.now.items c.index.result.now
    (get_or_read c.args.bounds.now.items c.args.v c.index.result.now c.requires.bounds c.index.ensures None)
    (subst (λ (t : Bool). TighterAnswers c.args.pos c.args.b c.index.result.now t) c.if-is_tighter.false c.is_tighter.ensures)
