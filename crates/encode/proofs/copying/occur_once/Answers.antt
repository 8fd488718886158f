use Rattle.std.proofs.Common.{◌∙◌, ◌≤◌, ◌<◌, ◌+◌, ◌∷◌, [], List, length, drop, get_or, ap, subst, arith}
use Rattle.std.specs.Prelude.{Ok, Err}
use Rattle.std.proofs.lemmas.Result.{err_from_is_err_and}
use Rattle.std.proofs.lemmas.List.Elements.{All-get_or}
use Rattle.std.proofs.Math.ListN.{drop_of_length-le}
use Rattle.task_core.specs.declared.action.GAction.{GAction}
use Rattle.encode.specs.inside.Copying.{actions_of}
use Rattle.encode.proofs.CopyingLaws.{Gone, gone-start, gone-step, gone-stop, gone-end, one-in-turn, sized-by, action-found, action-of, place-left}
use Rattle.encode.proofs.copying.occur_once.Goals as goal

pub loop-place-init : goal.loop-place-init
loop-place-init c = gone-start c.args.formula.now c.args.symbols.now (actions_of c.args.task.now c.args.places.now) c.requires.next

pub occur-requires-clause-sized : goal.occur-requires-clause-sized
occur-requires-clause-sized c =
    let p = get_or c.args.places.now c.loop-place.place-index 0 in
    let l = All-get_or (λ q. q < length c.args.task.now.actions) c.args.places.now c.loop-place.place-index 0 c.loop-place-test.true c.requires.places in
    let a = action-found c.args.task.now c.actions-actions.result.now (get_or c.args.places.now c.loop-place.place-index 0) _ c.index-actions-place.result c.actions-actions.ensures.value l c.index-actions-place.is in
    sized-by c.args.task.now c.index-actions-place.result (length c.loop-place.symbols.truths) (length c.loop-place.symbols.values)
    (action-of c.args.task.now (get_or c.args.places.now c.loop-place.place-index 0) c.index-actions-place.result c.actions-actions.ensures.promised l a)
    (c.loop-place.invariant.kept.truths ∙ c.requires.sized.truths) (c.loop-place.invariant.kept.values ∙ c.requires.sized.values)

pub returns-in_err-occur-clause-makes : goal.returns-in_err-occur-clause-makes
returns-in_err-occur-clause-makes c =
    let e = err_from_is_err_and c.from_residual.result c.from_residual.ensures.1 in
    let l = All-get_or (λ q. q < length c.args.task.now.actions) c.args.places.now c.loop-place.place-index 0 c.loop-place-test.true c.requires.places in
    let a = action-found c.args.task.now c.actions-actions.result.now (get_or c.args.places.now c.loop-place.place-index 0) _ c.index-actions-place.result c.actions-actions.ensures.value l c.index-actions-place.is in
    let left = place-left c.args.task.now c.args.places.now c.loop-place.place-index c.index-actions-place.result c.loop-place-test.true a in
    rw (e.1, e.2)
    (gone-stop c.args.formula.now c.args.symbols.now (actions_of c.args.task.now c.args.places.now) (c.index-actions-place.result ∷ []) (actions_of c.args.task.now (drop (c.loop-place.place-index + 1) c.args.places.now))
    c.loop-place.formula c.occur.new.formula c.loop-place.symbols c.occur.new.symbols
    (subst (λ (xs : List GAction). Gone c.args.formula.now c.args.symbols.now (actions_of c.args.task.now c.args.places.now) xs c.loop-place.formula c.loop-place.symbols) left c.loop-place.invariant) (Unit {0}) (Unit {0})
    c.in_err-occur.field-0.0 c.occur.new.symbols
    (one-in-turn {X = Unit {0}} c.index-actions-place.result c.loop-place.formula c.loop-place.symbols c.occur.new.formula c.occur.new.symbols (Err c.in_err-occur.field-0.0) c.in_err-occur.ensures.makes))

pub loop-place-preserved : goal.loop-place-preserved
loop-place-preserved c =
    let l = All-get_or (λ q. q < length c.args.task.now.actions) c.args.places.now c.loop-place.place-index 0 c.loop-place-test.true c.requires.places in
    let a = action-found c.args.task.now c.actions-actions.result.now (get_or c.args.places.now c.loop-place.place-index 0) _ c.index-actions-place.result c.actions-actions.ensures.value l c.index-actions-place.is in
    let left = place-left c.args.task.now c.args.places.now c.loop-place.place-index c.index-actions-place.result c.loop-place-test.true a in
    gone-step c.args.formula.now c.args.symbols.now (actions_of c.args.task.now c.args.places.now) (c.index-actions-place.result ∷ []) (actions_of c.args.task.now (drop (c.loop-place.place-index + 1) c.args.places.now))
    c.loop-place.formula c.occur.new.formula c.loop-place.symbols c.occur.new.symbols
    (subst (λ (xs : List GAction). Gone c.args.formula.now c.args.symbols.now (actions_of c.args.task.now c.args.places.now) xs c.loop-place.formula c.loop-place.symbols) left c.loop-place.invariant) (Unit {0}) tt
    (one-in-turn {X = Unit {0}} c.index-actions-place.result c.loop-place.formula c.loop-place.symbols c.occur.new.formula c.occur.new.symbols (Ok tt) c.in_ok-occur.ensures.makes) c.in_ok-occur.ensures.kept

pub returns-clause-makes : goal.returns-clause-makes
returns-clause-makes c =
    let l : length c.args.places.now ≤ c.loop-place.place-index = omega arith in
    gone-end c.args.formula.now c.args.symbols.now (actions_of c.args.task.now c.args.places.now) c.loop-place.formula c.loop-place.symbols (Unit {0}) tt
    (subst (λ (xs : List GAction). Gone c.args.formula.now c.args.symbols.now (actions_of c.args.task.now c.args.places.now) xs c.loop-place.formula c.loop-place.symbols)
    (ap (actions_of c.args.task.now) (drop_of_length-le c.args.places.now l)) c.loop-place.invariant)
