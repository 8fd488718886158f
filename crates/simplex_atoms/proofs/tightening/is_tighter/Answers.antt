use Rattle.std.proofs.Common.{Option, sym, subst}
use Rattle.simplex_law.specs.declared.bound.Bound.{Bound}
use Rattle.simplex_atoms.specs.inside.Noting.{TighterAnswers}
use Rattle.simplex_atoms.proofs.Tight.{tighter_above, tighter_below}
use Rattle.simplex_atoms.proofs.tightening.is_tighter.Goals as goal

pub returns-then-pos : goal.returns-then-pos
returns-then-pos c = subst (λ (o : Option Bound). TighterAnswers c.args.pos c.args.b.now o c.is_below.result) (sym c.in-Some.is)
    (tighter_above c.args.pos c.args.b.now c.in-Some.c c.is_below.result _ _ c.if-pos.true c.upper_pair.ensures c.upper_pair-then-pos.ensures c.is_below.ensures)

pub returns-else-pos : goal.returns-else-pos
returns-else-pos c = subst (λ (o : Option Bound). TighterAnswers c.args.pos c.args.b.now o c.is_below-else-pos.result) (sym c.in-Some.is)
    (tighter_below c.args.pos c.args.b.now c.in-Some.c c.is_below-else-pos.result _ _ c.if-pos.false c.lower_pair.ensures c.lower_pair-else-pos.ensures c.is_below-else-pos.ensures)
