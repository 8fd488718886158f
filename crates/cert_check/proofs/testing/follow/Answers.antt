use Rattle.std.proofs.Common.{◌≡◌, ◌≤◌, length, List, true, sym, subst, arith, All}
use Rattle.formula.specs.declared.atom.Lit.{Lit}
use Rattle.formula.specs.Contents.{is_clause}
use Rattle.clause_units.specs.Truth.{AreWithin}
use Rattle.cert_check.proofs.Readies.{clause_fits, clauses_within, ready_cleared}
use Rattle.cert_check.proofs.Newness.{new_is}
use Rattle.cert_check.proofs.testing.follow.Goals as goal

pub deny-denied-requires-clause-clause : goal.deny-denied-requires-clause-clause
deny-denied-requires-clause-clause c =
    subst (λ (x : List Lit). is_clause (length c.args.truths.now) x ≡ true) (sym c.lits.ensures)
    (clause_fits (length c.args.formula.now.atoms) (length c.args.truths.now) c.requires.ready.long c.args.clause.now c.requires.clause)

pub follows-followed-requires-clause-within : goal.follows-followed-requires-clause-within
follows-followed-requires-clause-within c =
    let long : length c.args.formula.now.atoms ≤ length c.deny-denied.new.truths = omega (arith, c.requires.ready.long, c.deny-denied.ensures.long) in
    subst (λ (x : List (List Lit)). All (AreWithin (length c.deny-denied.new.truths)) x) (sym c.clauses-2.ensures.value)
    (clauses_within (length c.args.formula.now.atoms) (length c.deny-denied.new.truths) long c.args.formula.now.clauses c.clauses-2.ensures.formula.clauses)

pub returns-in_err-denied-clause-ready : goal.returns-in_err-denied-clause-ready
returns-in_err-denied-clause-ready c =
    ready_cleared c.args.formula.now c.clear.new.self (length c.follows-followed.new.truths) (omega (arith, c.requires.ready.long, c.deny-denied.ensures.long, c.follows-followed.ensures.long)) c.clear.ensures

pub returns-in_err-followed-clause-ready : goal.returns-in_err-followed-clause-ready
returns-in_err-followed-clause-ready c =
    ready_cleared c.args.formula.now c.clear.new.self (length c.follows-followed.new.truths) (omega (arith, c.requires.ready.long, c.deny-denied.ensures.long, c.follows-followed.ensures.long)) c.clear.ensures

pub returns-clause-ready : goal.returns-clause-ready
returns-clause-ready c =
    ready_cleared c.args.formula.now c.clear.new.self (length c.follows-followed.new.truths) (omega (arith, c.requires.ready.long, c.deny-denied.ensures.long, c.follows-followed.ensures.long)) c.clear.ensures

pub returns-clause-new : goal.returns-clause-new
returns-clause-new c =
    new_is c.deny-denied.new.truths c.clauses.result.now c.args.formula.now.clauses c.lits.result.now c.lits-2.result.now c.args.clause.now c.is_new-new.result c.clauses.ensures.value c.lits.ensures c.lits-2.ensures c.is_new-new.ensures
    c.in_ok-denied.ensures.denied
