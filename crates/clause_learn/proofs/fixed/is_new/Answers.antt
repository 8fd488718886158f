use Rattle.std.proofs.Common.{ℕ, ◌∷◌, [], List, get_or, sym, ap, subst, ◌∙◌, inl, inr, arith}
use Rattle.std.proofs.lemmas.Bool.{cases_eq}
use Rattle.std.proofs.lemmas.List.{get_or_read}
use Rattle.formula.specs.declared.atom.Lit.{Lit}
use Rattle.theory_law.specs.Licence.{IsPart}
use Rattle.clause_learn.proofs.fixed.is_new.Goals as goal

pub loop-clause-preserved : goal.loop-clause-preserved
loop-clause-preserved c = λ k d lt. elim (cases_eq k c.loop-clause.clause-index) [
  | inl same ↦
      let eq = c.lits.ensures ∙ get_or_read c.args.clauses.now c.loop-clause.clause-index c.clause-item.result c.loop-clause-test.true c.clause-item.is d ∙ ap (λ (n : ℕ). get_or c.args.clauses.now n d) (sym same) in
      subst (λ (x : List Lit). IsPart x (c.args.lit ∷ []) → ⊥) eq (c.is_alone.ensures c.if-is_alone.false)
  | inr other ↦ c.loop-clause.invariant k d (omega arith)
]
