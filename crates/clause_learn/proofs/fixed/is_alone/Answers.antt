use Rattle.std.proofs.Common.{[], false, get_or, sym, inl, inr, arith}
use Rattle.std.proofs.lemmas.List.Elements.{Contains-get_or}
use Rattle.formula.specs.declared.atom.Lit.{Lit}
use Rattle.clause_trail.proofs.Lits.{in_cons}
use Rattle.clause_learn.proofs.fixed.is_alone.Goals as goal

pub returns-then-differs : goal.returns-then-differs
returns-then-differs c = λ e part.
    let f : Lit = record { boolean = 0; pos = false } in
    let x : Lit = get_or c.args.clause.now c.loop-other.other-index f in
    elim (in_cons c.args.lit x [] (part x (Contains-get_or c.args.clause.now c.loop-other.other-index f c.loop-other-test.true))) [
      | inl same ↦ c.differs.ensures.apart c.if-differs.true (sym same)
      | inr none ↦ absurd (omega (arith, none.1))
    ]
