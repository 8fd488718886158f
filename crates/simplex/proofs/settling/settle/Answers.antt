use Rattle.std.proofs.Common.{ℕ, List, Some, None, subst}
use Rattle.std.specs.Prelude.{Err}
use Rattle.rational.specs.Fraction.{Fraction}
use Rattle.simplex_law.specs.Config.{pair_at}
use Rattle.simplex_law.specs.declared.pair.Pair.{Pair}
use Rattle.simplex_check.specs.Checks.{ValuePasses}
use Rattle.theory_law.specs.declared.trace.Site.TheVariants.{Value, Point}
use Rattle.simplex_judge.specs.declared.pointing.PointFail.{PointFail}
use Rattle.simplex_judge.specs.inside.Settled.{PairsAnswer}
use Rattle.simplex_judge.specs.inside.Solved.{SolutionAnswers}
use Rattle.simplex_judge.specs.inside.Cuts.{WholeOrCut}
use Rattle.simplex_judge.specs.inside.Traced.{IsTraced}
use Rattle.simplex_judge.proofs.StuckLaws.{not_pivots}
use Rattle.simplex.proofs.AtLaws.{value_stuck, makes_point, point_stuck, full_holds, pairs_at}
use Rattle.simplex.proofs.settling.settle.Goals as goal

pub returns-in-Err-Wide : goal.returns-in-Err-Wide
returns-in-Err-Wide c = (
  value_stuck c.args.formula.now c.args.sides.now c.args.events.now c.args.pivots c.args.t.now c.args.begun c.args.ran c.requires.at c.requires.fits c.in_ok-stopped-in-Err-Wide.stopped c.in-Err-Wide.w
      (subst (λ (xs : List (ℕ × ℕ)). IsTraced c.args.begun xs Value (Some c.in-Err-Wide.w) None c.in_ok-stopped-in-Err-Wide.stopped) c.deref-in-Err-Wide.ensures.value c.in_ok-stopped-in-Err-Wide.ensures)
      (subst (λ (xs : List Pair). ValuePasses c.args.t.now (pair_at xs) c.in-Err-Wide.w) c.deref.ensures.value
      (subst (λ (e : PointFail). PairsAnswer c.args.t.now (pair_at c.deref.result.now) (Err e)) c.in-Err-Wide.field-0-is c.in-Err-Wide.ensures)),
  not_pivots c.in_ok-stopped-in-Err-Wide.stopped.site Value tt c.in_ok-stopped-in-Err-Wide.ensures.site_is,
)

pub solution-requires-clause-met : goal.solution-requires-clause-met
solution-requires-clause-met c =
    let at = pairs_at c.args.t.now c.deref-2.result.now c.in-Ok.pairs.items c.deref.result.now c.args.ran.place.items c.deref-2.ensures.value c.deref.ensures.value c.in-Ok.ensures in
    makes_point c.args.formula.now c.args.sides.now c.args.events.now c.args.pivots c.args.t.now c.args.begun c.args.ran c.requires.at c.requires.fits c.requires.decided c.deref-2.result.now at.0 at.1

pub returns-in-Err-Wide-solution : goal.returns-in-Err-Wide-solution
returns-in-Err-Wide-solution c =
    let at = pairs_at c.args.t.now c.deref-2.result.now c.in-Ok.pairs.items c.deref.result.now c.args.ran.place.items c.deref-2.ensures.value c.deref.ensures.value c.in-Ok.ensures in (
      point_stuck c.args.formula.now c.args.sides.now c.args.events.now c.args.pivots c.args.t.now c.args.begun c.args.ran c.requires.at c.requires.fits c.requires.decided c.deref-2.result.now at.0 at.1 c.in_ok-stopped-in-Err-Wide-solution.stopped c.in-Err-Wide-solution.w
          (subst (λ (xs : List (ℕ × ℕ)). IsTraced c.args.begun xs Point (Some c.in-Err-Wide-solution.w) None c.in_ok-stopped-in-Err-Wide-solution.stopped) c.deref-in-Err-Wide-solution.ensures.value c.in_ok-stopped-in-Err-Wide-solution.ensures)
          (subst (λ (e : PointFail). SolutionAnswers c.args.formula.now c.args.begun c.deref-2.result.now (Err e)) c.in-Err-Wide-solution.field-0-is c.in-Err-Wide-solution.ensures),
      not_pivots c.in_ok-stopped-in-Err-Wide-solution.stopped.site Point tt c.in_ok-stopped-in-Err-Wide-solution.ensures.site_is,
    )

pub returns-in-Some : goal.returns-in-Some
returns-in-Some c =
    let at = pairs_at c.args.t.now c.deref-2.result.now c.in-Ok.pairs.items c.deref.result.now c.args.ran.place.items c.deref-2.ensures.value c.deref.ensures.value c.in-Ok.ensures in
    let made = c.in-Ok-solution.ensures in
    full_holds c.args.formula.now c.args.sides.now c.args.events.now c.args.pivots c.args.t.now c.args.begun c.args.ran c.requires.at c.requires.fits c.requires.decided c.deref-2.result.now at.0 at.1 made.0 c.in-Ok-solution.p made.1 made.2 c.in-Some.verdict
    (subst (λ (xs : List Fraction). WholeOrCut c.args.formula.now.counts xs c.in-Some.verdict) c.as_slice.ensures c.in-Some.ensures)
