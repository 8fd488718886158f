use Rattle.clause_trail.proofs.Pushed.{forced_next, pushed_result, pushed_none, asserts_unit, asserts_nothing}
use Rattle.clause_trail.proofs.propagating.assert_clause.Goals as goal

pub push-requires-clause-booleans : goal.push-requires-clause-booleans
push-requires-clause-booleans c =
    let f = forced_next c.args.clauses.now c.args.trail.now.booleans c.args.trail.now.entries c.args.number c.in-Unit.lit c.requires.within c.lits_at.result.now c.lits_at.ensures c.in-Unit.ensures.0 c.in-Unit.ensures.1 in
    f.low

pub returns-in-Unit-clause-pushed : goal.returns-in-Unit-clause-pushed
returns-in-Unit-clause-pushed c =
    let f = forced_next c.args.clauses.now c.args.trail.now.booleans c.args.trail.now.entries c.args.number c.in-Unit.lit c.requires.within c.lits_at.result.now c.lits_at.ensures c.in-Unit.ensures.0 c.in-Unit.ensures.1 in
    pushed_result c.push.result _ c.push.ensures.ok c.push.ensures.err f

pub returns-in_default-clause-pushed : goal.returns-in_default-clause-pushed
returns-in_default-clause-pushed c = pushed_none c.args.trail.now.entries

pub returns-in-Unit-clause-ok : goal.returns-in-Unit-clause-ok
returns-in-Unit-clause-ok c =
    asserts_unit c.push.result c.args.clauses.now c.args.number c.lits_at.result.now c.in-Unit.lit c.args.trail.now.entries c.push.new.self.entries c.lits_at.ensures c.in-Unit.ensures.0 c.in-Unit.ensures.1 c.push.ensures.ok

pub returns-in_default-clause-ok : goal.returns-in_default-clause-ok
returns-in_default-clause-ok c = asserts_nothing c.args.clauses.now c.args.number c.lits_at.result.now c.scan.result c.args.trail.now.entries c.lits_at.ensures c.scan.ensures c.in_default.not-Unit
