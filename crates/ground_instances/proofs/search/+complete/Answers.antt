-- Each turn tries one object, and goes on above it where nothing is found with it.
use Rattle.std.proofs.Common.{◌<◌, ◌+◌, ℕ, Bool, ◌∙◌, sym, subst, length, take, set, List, Option, arith}
use Rattle.ground_instances.specs.inside.Open.{is_open}
use Rattle.ground_instances.specs.inside.Search.{IsCandidate, IsCompleted, IsNextObject}
use Rattle.ground_instances.proofs.Steps.{Turning, completed_here, turning_end, turning_shut, turning_empty, turning_found, turned_length}
use Rattle.ground_instances.proofs.search.+complete.Goals as goal
use Rattle.ground_instances.proofs.search.+complete.Goals.{else-branch-via-then-branch+in_ok-complete+else-branch-2, else-branch-via-else-branch}

pub returns-then-at-args : goal.returns-then-at-args
returns-then-at-args t c = completed_here (length c.args.search.now.task.now.objects) (is_open c.args.search.now.task.now c.args.search.now.action.now) c.args.args.now c.args.at c.args.low c.if-at-args.true

pub returns-then-branch-2 : goal.returns-then-branch-2
returns-then-branch-2 t c =
    let n = length c.args.search.now.task.now.objects in
    let allowed = is_open c.args.search.now.task.now c.args.search.now.action.now in
    let within : c.args.at < length c.args.args.now = grind (arith, c.if-at-args.false, c.requires.within) in
    let next : IsNextObject n allowed (take c.args.at c.loop-object.args) c.loop-object.low c.in-Some.object =
    subst (λ (r : Option ℕ). IsCandidate n allowed (take c.args.at c.loop-object.args) c.loop-object.low r) c.in-Some.is c.in_ok-object.ensures in
    turning_found n allowed c.args.args.now c.loop-object.args c.args.at c.args.low c.loop-object.low within c.loop-object.invariant c.in-Some.object next c.complete.new.args
    (omega (arith, c.complete.auto.args, turned_length n allowed c.args.args.now c.loop-object.args c.args.at c.args.low c.loop-object.low within c.loop-object.invariant c.in-Some.object next))
    (sym c.in_ok-opens.ensures ∙ c.if-branch.true)
    (subst (λ (b : Bool). IsCompleted n allowed (set c.loop-object.args c.args.at c.in-Some.object) (c.args.at + 1) 0 b c.complete.new.args) c.if-branch-2.true c.in_ok-complete.ensures)

pub loop-object-preserved : goal.loop-object-preserved
loop-object-preserved t c =
    let n = length c.args.search.now.task.now.objects in
    let allowed = is_open c.args.search.now.task.now c.args.search.now.action.now in
    let within : c.args.at < length c.args.args.now = grind (arith, c.if-at-args.false, c.requires.within) in
    let next : IsNextObject n allowed (take c.args.at c.loop-object.args) c.loop-object.low c.in-Some.object =
    subst (λ (r : Option ℕ). IsCandidate n allowed (take c.args.at c.loop-object.args) c.loop-object.low r) c.in-Some.is c.in_ok-object.ensures in
    elim c.else-branch.branch [
      | else-branch-via-then-branch+in_ok-complete+else-branch-2 w ↦
          subst (λ (l : List ℕ). Turning n allowed c.args.args.now c.args.at c.args.low l (c.in-Some.object + 1)) (sym w.args-is)
          (turning_empty n allowed c.args.args.now c.loop-object.args c.args.at c.args.low c.loop-object.low within c.loop-object.invariant c.in-Some.object next w.complete.new.args
          (omega (arith, w.complete.auto.args, turned_length n allowed c.args.args.now c.loop-object.args c.args.at c.args.low c.loop-object.low within c.loop-object.invariant c.in-Some.object next))
          (sym c.in_ok-opens.ensures ∙ w.if-branch.true)
          (subst (λ (b : Bool). IsCompleted n allowed (set c.loop-object.args c.args.at c.in-Some.object) (c.args.at + 1) 0 b w.complete.new.args) w.if-branch-2.false w.in_ok-complete.ensures))
      | else-branch-via-else-branch w ↦
          subst (λ (l : List ℕ). Turning n allowed c.args.args.now c.args.at c.args.low l (c.in-Some.object + 1)) (sym w.args-is)
          (turning_shut n allowed c.args.args.now c.loop-object.args c.args.at c.args.low c.loop-object.low within c.loop-object.invariant c.in-Some.object next (sym c.in_ok-opens.ensures ∙ w.if-branch.false))
    ]

pub returns : goal.returns
returns t c =
    let n = length c.args.search.now.task.now.objects in
    let allowed = is_open c.args.search.now.task.now c.args.search.now.action.now in
    let within : c.args.at < length c.args.args.now = grind (arith, c.if-at-args.false, c.requires.within) in
    turning_end n allowed c.args.args.now c.loop-object.args c.args.at c.args.low c.loop-object.low within c.loop-object.invariant
    (subst (λ (r : Option ℕ). IsCandidate n allowed (take c.args.at c.loop-object.args) c.loop-object.low r) c.in_default.is c.in_ok-object.ensures)
