use Rattle.std.proofs.Common.{ℕ, List, ◌<◌, length, slice_index_or, subst, sym}
use Rattle.std.specs.List.{AllByRecursion}
use Rattle.ground_walk.specs.Walk.{kept_instances}
use Rattle.planner_text.proofs.Refuting.{places_are_kept}
use Rattle.search.proofs.InstanceLaws.{at_index}
use Rattle.search.proofs.head.pattern_lines.Goals as goal

pub place_line-requires-clause-within : goal.place_line-requires-clause-within
place_line-requires-clause-within c =
    let all = subst (λ (xs : List ℕ). AllByRecursion (λ a. a < length (kept_instances c.args.task.now)) xs) (sym c.places-places.ensures) (places_are_kept c.args.task.now c.args.opened.now.pattern c.requires.pattern) in
    at_index (length (kept_instances c.args.task.now)) c.places-places.result.now c.loop-i.i 0 all c.loop-i-test.true
