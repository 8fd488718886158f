use Rattle.std.proofs.Common.{◌≡◌, length, List, true, sym, subst, arith}
use Rattle.formula.specs.declared.atom.Lit.{Lit}
use Rattle.formula.specs.Contents.{is_clause}
use Rattle.cert_check.proofs.Readies.{clause_fits, ready_cleared}
use Rattle.cert_check.proofs.Newness.{new_is}
use Rattle.cert_check.proofs.testing.contains_none.Goals as goal

pub deny-denied-requires-clause-clause : goal.deny-denied-requires-clause-clause
deny-denied-requires-clause-clause c =
    subst (λ (x : List Lit). is_clause (length c.args.truths.now) x ≡ true) (sym c.lits.ensures)
    (clause_fits (length c.args.formula.now.atoms) (length c.args.truths.now) c.requires.ready.long c.args.clause.now c.requires.clause)

pub returns-in_err-denied-clause-ready : goal.returns-in_err-denied-clause-ready
returns-in_err-denied-clause-ready c =
    ready_cleared c.args.formula.now c.clear.new.self (length c.deny-denied.new.truths) (omega (arith, c.requires.ready.long, c.deny-denied.ensures.long)) c.clear.ensures

pub returns-clause-ready : goal.returns-clause-ready
returns-clause-ready c =
    ready_cleared c.args.formula.now c.clear.new.self (length c.deny-denied.new.truths) (omega (arith, c.requires.ready.long, c.deny-denied.ensures.long)) c.clear.ensures

pub returns-clause-answer : goal.returns-clause-answer
returns-clause-answer c =
    new_is c.deny-denied.new.truths c.clauses.result.now c.args.formula.now.clauses c.lits.result.now c.lits-2.result.now c.args.clause.now c.is_new-new.result c.clauses.ensures.value c.lits.ensures c.lits-2.ensures c.is_new-new.ensures
    c.in_ok-denied.ensures.denied
