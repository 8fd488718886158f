use Rattle.std.proofs.Common.{◌≡◌, List, length, ap, sym, subst, ◌∙◌, arith}
use Rattle.std.proofs.lemmas.List.{with_items_is}
use Rattle.std.specs.Vec.{with_items}
use Rattle.tableau.specs.Table.{width}
use Rattle.simplex_law.specs.Config.{pair_at, IsStart}
use Rattle.simplex_law.specs.declared.pair.Pair.{Pair}
use Rattle.simplex_check.specs.Checks.{limits}
use Rattle.simplex_judge.proofs.Runs.{keeps, placed, ran}
use Rattle.simplex_judge.proofs.running.run.Goals as goal

pub check-answer-requires-clause-placed : goal.check-answer-requires-clause-placed
check-answer-requires-clause-placed c =
    let first : length c.deref_mut.result.now ≡ c.in_ok-place.place.len = c.deref_mut.ensures.len in
    let long : width c.args.t.now ≡ length c.deref_mut.result.now = omega (arith, c.in_ok-place.ensures.len, c.width-n.ensures.value, first) in
    let kept : length c.start.new.place ≡ c.in_ok-place.place.len = c.start.auto.place ∙ first in
    let is : c.deref_mut-3.result.now ≡ c.start.new.place = c.deref_mut-3.ensures.value ∙ with_items_is c.in_ok-place.place c.start.new.place kept in
    placed (limits c.args.lower.now c.args.upper.now) c.args.t.now c.deref_mut-3.result.now c.start.new.place c.requires.consistent (c.start.ensures.placed c.args.t.now long) is

pub returns-clause-same : goal.returns-clause-same
returns-clause-same c = (keeps (limits c.args.lower.now c.args.upper.now) c.args.t.now _ c.args.pivots _ c.check-answer.new.t _ c.check-answer.result c.check-answer.ensures.answers).1

pub returns-clause-answers : goal.returns-clause-answers
returns-clause-answers c =
    let l = limits c.args.lower.now c.args.upper.now in
    let first : length c.deref_mut.result.now ≡ c.in_ok-place.place.len = c.deref_mut.ensures.len in
    let long : width c.args.t.now ≡ length c.deref_mut.result.now = omega (arith, c.in_ok-place.ensures.len, c.width-n.ensures.value, first) in
    let kept : length c.start.new.place ≡ c.in_ok-place.place.len = c.start.auto.place ∙ first in
    let is : c.deref_mut-3.result.now ≡ c.start.new.place = c.deref_mut-3.ensures.value ∙ with_items_is c.in_ok-place.place c.start.new.place kept in
    let first_known : length c.deref_mut-2.result.now ≡ c.in_ok-known.known.len = c.deref_mut-2.ensures.len in
    let kept_known : length c.start.new.known ≡ c.in_ok-known.known.len = c.start.auto.known ∙ first_known in
    let is_known : c.deref_mut-4.result.now ≡ c.start.new.known = c.deref_mut-4.ensures.value ∙ with_items_is c.in_ok-known.known c.start.new.known kept_known in
    let place_long : length c.check-answer.new.place ≡ width c.args.t.now = c.check-answer.auto.place ∙ ap length is ∙ c.start.auto.place ∙ sym long in
    let known_long : length c.check-answer.new.known ≡ width c.args.t.now = omega (arith, c.check-answer.auto.known, ap length is_known, kept_known, c.in_ok-known.ensures.len, c.width-n.ensures.value) in
    ran l c.args.t.now c.args.pivots c.check-answer.new.t _ c.deref_mut-3.result.now c.check-answer.new.place c.check-answer.new.known
    (subst (λ (xs : List Pair). IsStart l c.args.t.now (pair_at xs)) (sym is) (c.start.ensures.placed c.args.t.now long))
    (with_items_is (with_items c.in_ok-place.place c.start.new.place) c.check-answer.new.place (c.check-answer.auto.place ∙ c.deref_mut-3.ensures.len))
    (with_items_is (with_items c.in_ok-known.known c.start.new.known) c.check-answer.new.known (c.check-answer.auto.known ∙ c.deref_mut-4.ensures.len))
    place_long known_long c.check-answer.ensures.known c.check-answer.ensures.answers
