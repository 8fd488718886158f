use Rattle.std.proofs.Common.{length, subst, List, ℕ}
use Rattle.std.proofs.lemmas.List.{take_rest}
use Rattle.hierarchy.specs.inside.Walks.{IsWalk, HasPlaces, IsCircleWritten}
use Rattle.hierarchy.proofs.WalkLaws.{distinct}
use Rattle.hierarchy.proofs.CircleLaws.{is_circle, is_climb, start_known, circle_settled}
use Rattle.hierarchy.proofs.settling.settle_walk.Goals as goal

pub settle_path-requires-clause-partly : goal.settle_path-requires-clause-partly
settle_path-requires-clause-partly c =
    let walk : IsWalk c.args.parents.now c.args.circles.now c.as_slice-path.result.now c.args.start c.in_ok-end.end = rw c.as_slice-path.ensures.value c.in_ok-end.ensures.walk in
    let written = subst
    (λ (circle : List ℕ). IsCircleWritten circle (length circle) c.in_ok-end.end c.args.depths.now c.settle_circle.new.depths c.args.circles.now c.settle_circle.new.circles c.args.jumps.now c.settle_circle.new.jumps)
    (take_rest c.as_slice-path.result.now c.circle_start-from.result) c.settle_circle.ensures in
    circle_settled c.args.parents.now c.args.circles.now _ _ (is_circle _ _ _ c.args.start _ _ walk c.circle_start-from.ensures) c.args.depths.now _ _ c.args.jumps.now _ c.requires.partly written
    c.settle_circle.auto.depths c.settle_circle.auto.circles c.settle_circle.auto.jumps

pub settle_path-requires-clause-climb : goal.settle_path-requires-clause-climb
settle_path-requires-clause-climb c =
    let walk : IsWalk c.args.parents.now c.args.circles.now c.as_slice-path.result.now c.args.start c.in_ok-end.end = rw c.as_slice-path.ensures.value c.in_ok-end.ensures.walk in
    let places : HasPlaces c.as_slice-path.result.now c.walk.new.places = rw c.as_slice-path.ensures.value c.in_ok-end.ensures.places in
    let written = subst
    (λ (circle : List ℕ). IsCircleWritten circle (length circle) c.in_ok-end.end c.args.depths.now c.settle_circle.new.depths c.args.circles.now c.settle_circle.new.circles c.args.jumps.now c.settle_circle.new.jumps)
    (take_rest c.as_slice-path.result.now c.circle_start-from.result) c.settle_circle.ensures in
    is_climb _ _ _ c.args.start _ _ walk c.circle_start-from.ensures c.settle_circle.new.circles c.settle_circle.auto.circles c.requires.partly.lengths.circles_length written.number written.circles_kept
    (distinct _ _ places)

pub returns-clause-known : goal.returns-clause-known
returns-clause-known c =
    let walk : IsWalk c.args.parents.now c.args.circles.now c.as_slice-path.result.now c.args.start c.in_ok-end.end = rw c.as_slice-path.ensures.value c.in_ok-end.ensures.walk in
    let written = subst
    (λ (circle : List ℕ). IsCircleWritten circle (length circle) c.in_ok-end.end c.args.depths.now c.settle_circle.new.depths c.args.circles.now c.settle_circle.new.circles c.args.jumps.now c.settle_circle.new.jumps)
    (take_rest c.as_slice-path.result.now c.circle_start-from.result) c.settle_circle.ensures in
    start_known _ _ _ c.args.start _ _ walk c.circle_start-from.ensures c.settle_circle.new.circles c.settle_circle.auto.circles c.requires.partly.lengths.circles_length written.number written.circles_kept
    c.settle_path.new.circles c.settle_path.ensures.known c.settle_path.ensures.kept
