use Rattle.std.proofs.Common.{◌≡◌, ◌∙◌, ℕ, false, List, refl, sym, subst}
use Rattle.formula.specs.declared.atom.Lit.{Lit}
use Rattle.clause_index.specs.Places.{listed}
use Rattle.cert_check.specs.inside.Indexed.{HasBroken}
use Rattle.cert_check.proofs.Newness.{empty_not_new, broken_not_new, none_more, none_is_new, none_below}
use Rattle.cert_check.proofs.denial.is_new.Goals as goal

none : Lit
none = record { boolean = 0; pos = false }

pub returns-then-has_empty : goal.returns-then-has_empty
returns-then-has_empty c = λ tells. (
  λ t. absurd (cc),
  λ new. absurd (empty_not_new c.args.truths.now c.args.clauses.now c.args.index.now c.args.lits.now c.requires (sym c.has_empty.ensures ∙ c.if-has_empty.true) new),
)

pub returns-then-has_broken : goal.returns-then-has_broken
returns-then-has_broken c = λ tells. (
  λ t. absurd (cc),
  λ new. absurd (broken_not_new c.args.truths.now c.args.clauses.now c.args.index.now c.args.lits.now c.requires tells c.listed.result.now (c.has_broken.ensures.0 c.if-has_broken.true) new),
)

pub loop-lit-preserved : goal.loop-lit-preserved
unfolding none
loop-lit-preserved c = none_more c.args.truths.now c.args.clauses.now c.args.index.now c.args.lits.now c.loop-lit.lit-index none c.loop-lit.invariant c.loop-lit-test.true
    (λ broken. let t = c.has_broken.ensures.1 (subst (λ (xs : List ℕ). HasBroken c.args.truths.now c.args.clauses.now xs) (sym c.listed.ensures) broken) in let f = c.if-has_broken.false in cc)

pub returns : goal.returns
returns c = λ tells. (
  λ t. none_is_new c.args.truths.now c.args.clauses.now c.args.index.now c.args.lits.now c.requires tells (sym c.has_empty.ensures ∙ c.if-has_empty.false)
      (none_below c.args.truths.now c.args.clauses.now c.args.index.now c.args.lits.now c.loop-lit.lit-index c.loop-lit.invariant c.loop-lit-test.false),
  λ new. refl,
)
