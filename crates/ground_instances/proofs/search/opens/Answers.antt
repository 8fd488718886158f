-- The arguments fit and the conditions are met.
use Rattle.std.proofs.Common.{◌≡◌, ◌∙◌, Bool, sym, ap}
use Rattle.std.specs.List.{list_all}
use Rattle.plan_step.specs.Meaning.{all_fit}
use Rattle.ground_instances.specs.inside.Open.{is_open, met_so_far}
use Rattle.ground_instances.proofs.Answering.{along, not_first, first_too}
use Rattle.ground_instances.proofs.search.opens.Goals as goal

pub returns-then-not-all_fit : goal.returns-then-not-all_fit
unfolding is_open
returns-then-not-all_fit c =
    not_first (all_fit c.args.search.now.task.now c.args.search.now.action.now.params c.args.args.now) _
    (ap (λ params. all_fit c.args.search.now.task.now params c.args.args.now) (sym c.as_slice.ensures) ∙ sym c.all_fit.ensures ∙ c.if-not-all_fit.true)

pub returns : goal.returns
unfolding is_open
returns c =
    along (λ (met : Bool). met ≡ list_all (met_so_far c.args.search.now.task.now c.args.args.now) c.as_slice-2.result.now)
    (λ (met : Bool). met ≡ is_open c.args.search.now.task.now c.args.search.now.action.now c.args.args.now) c.all_met.result
    (λ met h.
    first_too (all_fit c.args.search.now.task.now c.args.search.now.action.now.params c.args.args.now) (list_all (met_so_far c.args.search.now.task.now c.args.args.now) c.args.search.now.action.now.conds) met
    (ap (λ params. all_fit c.args.search.now.task.now params c.args.args.now) (sym c.as_slice.ensures) ∙ sym c.all_fit.ensures ∙ c.if-not-all_fit.false)
    (h ∙ ap (list_all (met_so_far c.args.search.now.task.now c.args.args.now)) c.as_slice-2.ensures))
    c.all_met.ensures
