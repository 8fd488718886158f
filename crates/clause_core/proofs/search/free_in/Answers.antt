use Rattle.std.proofs.Common.{ℕ, arith, sym, subst, Option, ◌<◌, ◌+◌}
use Rattle.clause_core.proofs.Choices.{IsBest, best_more, best_next, best_all}
use Rattle.clause_core.proofs.search.free_in.Goals.{in-Some, in-None}
use Rattle.clause_core.proofs.search.free_in.Goals as goal

pub loop-b-preserved : goal.loop-b-preserved
loop-b-preserved c =
    let entries = c.args.trail.now.entries in
    let n = c.args.trail.now.booleans in
    let lt : c.loop-b.b < n = omega (arith, c.booleans-b-end.ensures.value) in
    elim c.match-place.branch [
      | in-Some w ↦ let f = w.in-Some.ensures.found in subst (λ (o : Option ℕ). IsBest entries n (c.loop-b.b + 1) o) (sym w.best-is) (best_more entries n c.loop-b.b c.loop-b.best c.loop-b.invariant (w.in-Some._place, f.0, f.1, f.2))
      | in-None w ↦ subst (λ (o : Option ℕ). IsBest entries n (c.loop-b.b + 1) o) (sym w.best-is) (best_next entries n c.loop-b.b w.better.result c.loop-b.best c.loop-b.invariant lt w.in-None.ensures.found w.better.ensures)
    ]

pub returns : goal.returns
returns c = best_all c.args.trail.now.entries c.args.trail.now.booleans c.loop-b.b c.loop-b.best (omega (arith, c.booleans-b-end.ensures.value)) c.loop-b.invariant
