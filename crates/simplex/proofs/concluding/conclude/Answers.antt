use Rattle.std.proofs.Common.{rules, ◌≡◌, Bool, None, ap, sym, subst, ◌∙◌}
use Rattle.std.specs.Prelude.{Ok, Err}
use Rattle.simplex_law.specs.Config.{pair_at}
use Rattle.simplex_check.specs.declared.checking.Verdict.TheVariants as found
use Rattle.theory_law.specs.declared.trace.Site.TheVariants.{Value, Pivot}
use Rattle.theory_law.specs.declared.verdict.Verdict.TheVariants.{Fits}
use Rattle.simplex_judge.specs.Judged.{JudgedHolds}
use Rattle.simplex_judge.proofs.StuckLaws.{not_pivots}
use Rattle.simplex.proofs.EndLaws.{fits_holds, stuck_is, spent_stuck, value_stops, pivot_stops}
use Rattle.simplex.proofs.concluding.conclude.Goals as goal

pub clash_after-requires-clause-lemma : goal.clash_after-requires-clause-lemma
clash_after-requires-clause-lemma c =
    let is = stuck_is c.args.formula.now c.args.sides.now c.args.events.now c.args.pivots c.args.t.now c.args.begun c.args.ran c.requires.at c.in-Ok-Clash.r c.in-Ok-Clash.side (let is : c.args.ran.answer ≡ Ok (found.Clash c.in-Ok-Clash.r c.in-Ok-Clash.side) = search rules in is) in
    c.in_ok-lemma-in-Ok-Clash.ensures c.args.formula.now c.args.begun.lits.items (pair_at c.args.ran.place.items) c.requires.at.setting is.0 is.1

pub returns-else-full : goal.returns-else-full
returns-else-full c =
    subst (λ (b : Bool). JudgedHolds c.args.formula.now c.args.pivots c.args.events.now b (record { verdict = Fits; point = None })) (sym c.if-full.false)
    (fits_holds c.args.formula.now c.args.sides.now c.args.events.now c.args.pivots c.args.t.now c.args.begun c.args.ran c.requires.at (let is : c.args.ran.answer ≡ Ok found.Fits = search rules in is))

pub returns-in_ok-stopped-in-Ok-Spent : goal.returns-in_ok-stopped-in-Ok-Spent
returns-in_ok-stopped-in-Ok-Spent c = (
  spent_stuck c.args.formula.now c.args.sides.now c.args.events.now c.args.pivots c.args.t.now c.args.begun c.args.ran c.requires.at (let is : c.args.ran.answer ≡ Ok found.Spent = search rules in is) c.in_ok-stopped-in-Ok-Spent.stopped c.in_ok-stopped-in-Ok-Spent.ensures,
  c.in_ok-stopped-in-Ok-Spent.ensures.site_is,
)

pub returns-in_ok-stopped-in-Err-Value : goal.returns-in_ok-stopped-in-Err-Value
returns-in_ok-stopped-in-Err-Value c = (
  value_stops c.args.formula.now c.args.sides.now c.args.events.now c.args.pivots c.args.t.now c.args.begun c.args.ran c.requires.at c.in-Err-Value.w (c.in-Err-Value.is ∙ ap Err c.in-Err-Value.field-0-is) c.in_ok-stopped-in-Err-Value.stopped c.in_ok-stopped-in-Err-Value.ensures,
  not_pivots c.in_ok-stopped-in-Err-Value.stopped.site Value tt c.in_ok-stopped-in-Err-Value.ensures.site_is,
)

pub returns-in_ok-stopped-in-Err-Pivot : goal.returns-in_ok-stopped-in-Err-Pivot
returns-in_ok-stopped-in-Err-Pivot c = (
  pivot_stops c.args.formula.now c.args.sides.now c.args.events.now c.args.pivots c.args.t.now c.args.begun c.args.ran c.requires.at c.in-Err-Pivot.w (c.in-Err-Pivot.is ∙ ap Err c.in-Err-Pivot.field-0-is) c.in_ok-stopped-in-Err-Pivot.stopped c.in_ok-stopped-in-Err-Pivot.ensures,
  not_pivots c.in_ok-stopped-in-Err-Pivot.stopped.site Pivot tt c.in_ok-stopped-in-Err-Pivot.ensures.site_is,
)
