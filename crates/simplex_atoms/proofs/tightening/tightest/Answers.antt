use Rattle.std.proofs.Common.{List, take, get_or, false, sym, subst, arith, ◌<◌, length}
use Rattle.std.proofs.lemmas.List.{take_more}
use Rattle.formula.specs.declared.atom.Lit.{Lit}
use Rattle.simplex_atoms.specs.Tightest.{AreTightest}
use Rattle.simplex_atoms.proofs.Tight.{tight_more}
use Rattle.simplex_atoms.proofs.tightening.tightest.Goals as goal

pub loop-lit-preserved : goal.loop-lit-preserved
loop-lit-preserved c =
    let i = c.loop-lit.lit-index in
    let d : Lit = record { boolean = 0; pos = false } in
    let lt : c.loop-lit.lit-index < length c.args.lits.now = omega arith in
    subst (λ (ls : List Lit). AreTightest c.args.sides.now ls c.args.pos c.args.n c.note_literal.new.bounds.items c.note_literal.new.by.items) (sym (take_more c.args.lits.now i d lt))
    (tight_more c.args.sides.now c.args.pos (take i c.args.lits.now) (get_or c.args.lits.now i d) c.args.n c.loop-lit.bounds.items c.loop-lit.by.items c.note_literal.new.bounds.items c.note_literal.new.by.items c.loop-lit.invariant c.note_literal.ensures)
