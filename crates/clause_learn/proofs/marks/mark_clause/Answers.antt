use Rattle.std.proofs.Common.{sym, ap, arith, ◌∙◌, get_or, false, rules, inl, inr}
use Rattle.std.proofs.lemmas.Bool.{cases_eq}
use Rattle.std.proofs.lemmas.List.Elements.{Contains-get_or}
use Rattle.std.proofs.lemmas.List.{get_or_default}
use Rattle.formula.specs.declared.atom.Lit.{Lit}
use Rattle.clause_learn.proofs.marks.mark_clause.Goals as goal

pub loop-lit-preserved : goal.loop-lit-preserved
loop-lit-preserved c = record {
  kept = λ p h. c.mark.ensures.kept p (c.loop-lit.invariant.kept p h);
  here = λ k d lt p m s e. elim (cases_eq k c.loop-lit.lit-index) [
    | inl same ↦ c.mark.ensures.here p m s (e ∙ rw same (ap (λ (x : Lit). x.boolean) (get_or_default c.args.clause.now c.loop-lit.lit-index d (record { boolean = 0; pos = false }) c.loop-lit-test.true)))
    | inr other ↦ c.mark.ensures.kept p (c.loop-lit.invariant.here k d (omega arith) p m s e)
  ];
  only = λ p h. elim (c.mark.ensures.only p h) [
    | inl old ↦ c.loop-lit.invariant.only p old
    | inr new ↦ let f : Lit = record { boolean = 0; pos = false } in
        inr (get_or c.args.clause.now c.loop-lit.lit-index f, Contains-get_or c.args.clause.now c.loop-lit.lit-index f c.loop-lit-test.true, new.0, new.1, new.2)
  ];
}

pub returns-clause-here : goal.returns-clause-here
returns-clause-here c = λ m in' p l s e. c.loop-lit.invariant.here in'.0 m (search rules) p l s (e ∙ sym (ap (λ (x : Lit). x.boolean) in'.2))
