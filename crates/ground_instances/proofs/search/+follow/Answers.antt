-- The next list keeps one argument more, or else has a greater one there.
use Rattle.std.proofs.Common.{◌<◌, ◌+◌, Bool, subst, length, get_or, arith}
use Rattle.ground_instances.specs.inside.Open.{is_open}
use Rattle.ground_instances.specs.inside.Search.{IsCompleted, IsFollowed}
use Rattle.ground_instances.proofs.Answering.{along}
use Rattle.ground_instances.proofs.Steps.{followed_here, followed_further, followed_next}
use Rattle.ground_instances.proofs.search.+follow.Goals as goal

pub returns-then-at-args : goal.returns-then-at-args
returns-then-at-args t c = followed_here (length c.args.search.now.task.now.objects) (is_open c.args.search.now.task.now c.args.search.now.action.now) c.args.args.now c.args.at c.if-at-args.true

pub returns-then-branch : goal.returns-then-branch
returns-then-branch t c =
    let n = length c.args.search.now.task.now.objects in
    let allowed = is_open c.args.search.now.task.now c.args.search.now.action.now in
    let within : c.args.at < length c.args.args.now = grind (arith, c.if-at-args.false, c.requires.within) in
    followed_further n allowed c.args.args.now c.args.at within c.follow.new.args c.follow.auto.args
    (subst (λ (b : Bool). IsFollowed n allowed c.args.args.now (c.args.at + 1) b c.follow.new.args) c.if-branch.true c.in_ok-follow.ensures)

pub returns : goal.returns
returns t c =
    let n = length c.args.search.now.task.now.objects in
    let allowed = is_open c.args.search.now.task.now c.args.search.now.action.now in
    let within : c.args.at < length c.args.args.now = grind (arith, c.if-at-args.false, c.requires.within) in
    along (λ (found : Bool). IsCompleted n allowed c.follow.new.args c.args.at (get_or c.follow.new.args c.args.at 0 + 1) found c.complete.new.args)
    (λ (found : Bool). IsFollowed n allowed c.args.args.now c.args.at found c.complete.new.args) c.complete.result
    (λ found h. followed_next n allowed c.args.args.now c.args.at within c.follow.new.args c.complete.new.args found c.follow.auto.args
    (subst (λ (b : Bool). IsFollowed n allowed c.args.args.now (c.args.at + 1) b c.follow.new.args) c.if-branch.false c.in_ok-follow.ensures) h)
    c.complete.ensures
