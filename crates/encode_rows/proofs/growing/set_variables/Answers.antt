use Rattle.std.proofs.Common.{◌≡◌, ◌∙◌, ◌≤◌, ◌<◌, ◌+◌, ◌∷◌, ℕ, List, length, drop, ap, sym, subst, arith}
use Rattle.std.proofs.lemmas.List.{drop_more}
use Rattle.std.proofs.lemmas.List.Elements.{All-get_or}
use Rattle.std.proofs.Math.ListN.{drop_of_length-le}
use Rattle.lin.specs.Linear.{Linear}
use Rattle.task_core.specs.Task.{numbers}
use Rattle.encode_rows.proofs.RisingLaws.{rising-distinct}
use Rattle.encode_rows.proofs.GrowingLaws.{Setting, setting-start, setting-step, setting-end}
use Rattle.encode_rows.proofs.growing.set_variables.Goals as goal

pub loop-set-init : goal.loop-set-init
loop-set-init c = setting-start c.args.w c.args.sets.now c.args.values.now (rising-distinct (numbers c.args.sets.now) c.requires.once)

pub loop-set-preserved : goal.loop-set-preserved
loop-set-preserved c =
    let at : drop c.loop-set.set-index c.args.sets.now ≡ c.set-item.result ∷ drop (c.loop-set.set-index + 1) c.args.sets.now =
    drop_more c.args.sets.now c.loop-set.set-index c.set-item.result c.loop-set-test.true ∙ ap (λ (s : ℕ × Linear). s ∷ drop (c.loop-set.set-index + 1) c.args.sets.now) (sym c.set-item.is) in
    let here = subst (λ (s : ℕ × Linear). s.0 < length c.args.values.now) (sym c.set-item.is) (All-get_or (λ s. s.0 < length c.args.values.now) c.args.sets.now c.loop-set.set-index c.set-item.result c.loop-set-test.true c.requires.within) in
    let count = c.loop-set.invariant.count in
    let within : c.set-item.result.0 < length c.loop-set.values = omega arith in
    setting-step c.args.w c.args.sets.now c.args.values.now c.loop-set.next c.set-item.result (drop (c.loop-set.set-index + 1) c.args.sets.now) c.loop-set.values c.set_variable.new.values
    (subst (λ (ss : List (ℕ × Linear)). Setting c.args.w c.args.sets.now c.args.values.now c.loop-set.next ss c.loop-set.values) at c.loop-set.invariant) within
    c.in_ok-set_variable.ensures.made c.in_ok-set_variable.ensures.kept

pub returns-clause-made : goal.returns-clause-made
returns-clause-made c =
    let l : length c.args.sets.now ≤ c.loop-set.set-index = omega arith in
    setting-end c.args.w c.args.sets.now c.args.values.now c.loop-set.next c.loop-set.values
    (subst (λ (ss : List (ℕ × Linear)). Setting c.args.w c.args.sets.now c.args.values.now c.loop-set.next ss c.loop-set.values) (drop_of_length-le c.args.sets.now l) c.loop-set.invariant)
