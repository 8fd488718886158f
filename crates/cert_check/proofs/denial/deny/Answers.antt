use Rattle.std.proofs.Common.{◌≡◌, ◌+◌, false, length, List, Option, Bool, Some, set, sym, subst, ap, ◌∙◌, get_or}
use Rattle.formula.specs.declared.atom.Lit.{Lit}
use Rattle.formula.specs.Reading.{opposite}
use Rattle.clause_units.proofs.Literals.{lit_same}
use Rattle.cert_check.proofs.Denying.{IsDenied, denied_more, denied_all}
use Rattle.cert_check.proofs.denial.deny.Goals as goal

none : Lit
none = record { boolean = 0; pos = false }

pub loop-lit-preserved : goal.loop-lit-preserved
unfolding none
loop-lit-preserved c =
    let x : Lit = opposite (get_or c.args.lits.now c.loop-lit.lit-index none) in
    let is : c.opposite.result ≡ x = lit_same c.opposite.result x c.opposite.ensures.boolean c.opposite.ensures.pos in
    let done : c.assign.new.self ≡ set c.loop-lit.truths x.boolean (Some x.pos) = c.in_ok-assign.ensures.done ∙ ap (λ (l : Lit). set c.loop-lit.truths l.boolean (Some l.pos)) is in
    subst (λ (t : List (Option Bool)). IsDenied (length c.args.truths.now) c.args.lits.now t (c.loop-lit.lit-index + 1)) (sym done)
    (denied_more (length c.args.truths.now) c.args.lits.now c.loop-lit.truths c.loop-lit.lit-index none c.loop-lit.invariant c.loop-lit-test.true)

pub returns-clause-denied : goal.returns-clause-denied
returns-clause-denied c = denied_all (length c.args.truths.now) c.args.lits.now c.loop-lit.truths c.loop-lit.lit-index c.loop-lit.invariant c.loop-lit-test.false
