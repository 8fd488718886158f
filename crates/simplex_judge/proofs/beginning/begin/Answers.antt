use Rattle.std.proofs.Common.{◌<◌, ℕ, List, sym, ap, subst, ◌∙◌}
use Rattle.formula.specs.declared.atom.Lit.{Lit}
use Rattle.simplex_atoms.specs.Tightest.{IsTable}
use Rattle.simplex_fit.specs.Assigned.{AreSigns, literals_of}
use Rattle.simplex_fit.proofs.TableLaws.{is_table}
use Rattle.simplex_judge.specs.inside.Begun.{AreBoth}
use Rattle.simplex_judge.proofs.Beginnings.{low, lits_below, begun}
use Rattle.simplex_judge.proofs.beginning.begin.Goals as goal

pub signs-requires-clause-low : goal.signs-requires-clause-low
signs-requires-clause-low c = λ l a. subst (λ (n : ℕ). l.boolean < n) (sym c.booleans.ensures) (low c.args.formula.now c.args.sides.now c.args.t.now c.requires.fit c.args.events.now c.requires.of_atoms l a)

pub bounds-requires-clause-within : goal.bounds-requires-clause-within
bounds-requires-clause-within c =
    lits_below c.args.formula.now c.args.sides.now c.args.t.now c.requires.fit c.args.events.now c.requires.of_atoms c.in_ok-signs.signs.items c.deref-2.result.now
    (subst (λ (n : ℕ). AreSigns c.args.events.now n c.in_ok-signs.signs.items) c.booleans.ensures c.in_ok-signs.ensures)
    (c.deref-2.ensures.value ∙ c.in_ok-lits.ensures ∙ ap literals_of c.deref.ensures.value)

pub bounds-requires-clause-table : goal.bounds-requires-clause-table
bounds-requires-clause-table c = subst (λ (n : ℕ). IsTable n c.args.sides.now) (sym c.width.ensures.value) (is_table c.args.formula.now c.args.sides.now c.args.t.now c.requires.fit)

pub returns : goal.returns
returns c =
    begun c.args.formula.now c.args.sides.now c.args.t.now c.requires.fit c.args.events.now c.requires.of_atoms _
    (subst (λ (n : ℕ). AreSigns c.args.events.now n c.in_ok-signs.signs.items) c.booleans.ensures c.in_ok-signs.ensures)
    (c.in_ok-lits.ensures ∙ ap literals_of c.deref.ensures.value)
    (c.in_ok-basis.ensures ∙ c.basis.ensures)
    (subst (λ (n : ℕ). AreBoth c.args.sides.now c.in_ok-lits.lits.items n c.in_ok-both.both) c.width.ensures.value
    (subst (λ (ls : List Lit). AreBoth c.args.sides.now ls c.width.result c.in_ok-both.both) c.deref-2.ensures.value c.in_ok-both.ensures))
