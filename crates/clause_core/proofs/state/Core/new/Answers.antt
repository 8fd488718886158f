use Rattle.clause_core.proofs.Cores.{core_start}
use Rattle.clause_core.proofs.state.Core.new.Goals as goal

pub invariant_of-result : goal.invariant_of-result
invariant_of-result g c =
    core_start c.args.formula (g.T.Theory.seen c.args.theory) c.in_ok-trail.trail c.trail_of.ensures.formula c.requires c.in_ok-trail.ensures.trail.0 c.in_ok-trail.ensures.trail.1
