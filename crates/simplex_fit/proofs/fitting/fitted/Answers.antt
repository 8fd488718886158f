use Rattle.std.proofs.Common.{◌≡◌, ℕ, List, length, sym, ap, subst, ◌∙◌}
use Rattle.std.specs.List.{All}
use Rattle.std.proofs.lemmas.List.Elements.{All-from_recursion, recursion_from_All}
use Rattle.lin.specs.Linear.{Linear, AreBelow}
use Rattle.simplex_atoms.specs.LeftSides.{rows_of}
use Rattle.simplex_clash.proofs.Variables.{rows_below}
use Rattle.simplex_fit.proofs.fitting.fitted.Goals as goal

pub new-requires-clause-below : goal.new-requires-clause-below
new-requires-clause-below c =
    let f = c.args.formula.now in
    let rows : c.deref-3.result.now ≡ rows_of f.atoms = c.deref-3.ensures.value ∙ c.in_ok-rows.ensures ∙ ap rows_of (c.deref.ensures.value ∙ c.in_ok-atoms.ensures) in
    subst (λ (n : ℕ). All (λ (l : Linear). AreBelow n l.terms) c.deref-3.result.now) (sym c.vars-vars.ensures)
    (subst (λ (rs : List Linear). All (λ (l : Linear). AreBelow (length f.counts) l.terms) rs) (sym rows)
    (All-from_recursion _ (rows_of f.atoms) (rows_below f.counts f.atoms (recursion_from_All _ f.atoms c.clauses-clauses.ensures.formula.atoms))))
