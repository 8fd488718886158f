use Rattle.std.proofs.Common.{◌≡◌, length, arith}
use Rattle.std.proofs.lemmas.Bool.{iff_false}
use Rattle.hierarchy.specs.inside.Walks.{StandsAt}
use Rattle.hierarchy.proofs.WalkLaws.{pushed, pushed_nearer}
use Rattle.hierarchy.proofs.walking.walk.Goals as goal

pub walk-smaller : goal.walk-smaller
walk-smaller c =
    let lengths : length c.walk.places ≡ length c.args.parents.now = omega (arith, c.requires.places, c.walk.auto.places) in
    let away = λ (on : StandsAt c.walk.path.items c.walk.places c.walk.at).
    iff_false c.stands_at.ensures c.if-not-stands_at.true (rw c.deref.ensures.value on) in
    pushed_nearer _ _ _ c.walk.places _ c.args.start c.walk.at c.len.result _ lengths c.in_ok-push.ensures.items
    (pushed c.args.parents.now c.args.circles.now c.walk.path.items c.walk.places c.push.new.self.items c.args.start c.walk.at c.len.result c.requires.hierarchy lengths c.walk.invariant.walk c.walk.invariant.places
    (iff_false c.is_known.ensures c.walk-test.true) away c.in_ok-push.ensures.items (omega (arith, c.len.ensures, c.walk.path.ok.0)))

pub walk-preserved : goal.walk-preserved
walk-preserved c =
    let lengths : length c.walk.places ≡ length c.args.parents.now = omega (arith, c.requires.places, c.walk.auto.places) in
    let away = λ (on : StandsAt c.walk.path.items c.walk.places c.walk.at).
    iff_false c.stands_at.ensures c.if-not-stands_at.true (rw c.deref.ensures.value on) in
    let both = pushed c.args.parents.now c.args.circles.now c.walk.path.items c.walk.places c.push.new.self.items c.args.start c.walk.at c.len.result c.requires.hierarchy lengths c.walk.invariant.walk c.walk.invariant.places
    (iff_false c.is_known.ensures c.walk-test.true) away c.in_ok-push.ensures.items (omega (arith, c.len.ensures, c.walk.path.ok.0)) in
    record { walk = both.0; places = both.1 }
