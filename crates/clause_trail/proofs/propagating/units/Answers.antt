use Rattle.std.proofs.Common.{rules, refl, ◌∙◌}
use Rattle.clause_trail.proofs.Pushed.{pushed_none, pushed_push, forced_next}
use Rattle.clause_trail.proofs.propagating.units.Goals as goal

pub units-init : goal.units-init
units-init c = record { booleans = refl; pushed = pushed_none c.args.trail.now.entries }

pub push-requires-clause-booleans : goal.push-requires-clause-booleans
push-requires-clause-booleans c =
    let u = c.in-Unit.ensures.next in
    let f = forced_next c.args.clauses.now c.args.trail.now.booleans c.units.trail.entries c.in-Unit.k c.in-Unit.lit c.requires u.0 u.1 u.2 u.3 in
    search (rules, f.low, c.units.invariant.booleans)

pub units-preserved : goal.units-preserved
units-preserved c =
    let u = c.in-Unit.ensures.next in
    record {
      booleans = c.in_ok-push-in-Unit.ensures.booleans ∙ c.units.invariant.booleans;
      pushed = pushed_push c.units.invariant.pushed _ c.in_ok-push-in-Unit.ensures.ok (forced_next c.args.clauses.now c.args.trail.now.booleans c.units.trail.entries c.in-Unit.k c.in-Unit.lit c.requires u.0 u.1 u.2 u.3);
    }
