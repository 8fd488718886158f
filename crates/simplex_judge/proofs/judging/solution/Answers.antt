use Rattle.std.proofs.Common.{inr, Bool, false, List, Option, length, ap, ◌∙◌}
use Rattle.std.specs.Prelude.{Ok, Err, map, unwrap_or}
use Rattle.formula.specs.declared.point.Point.{Point}
use Rattle.simplex_judge.specs.inside.Solved.{SolutionAnswers}
use Rattle.simplex_judge.proofs.SolutionLaws.{refused, answers_at, made_point}
use Rattle.simplex_judge.proofs.judging.solution.Goals as goal

pub returns-in-Err : goal.returns-in-Err
returns-in-Err c =
    let f = c.args.formula.now in
    let b = c.args.begun.now in
    let pairs = c.args.pairs.now in
    refused f b pairs c.in-Err.fail
    (answers_at b pairs c.as_slice-lower.result.now c.as_slice-upper.result.now c.vars.result (length f.counts) (Err c.in-Err.fail) c.as_slice-lower.ensures.value c.as_slice-upper.ensures.value c.vars.ensures c.in-Err.ensures)

pub test-requires-clause-holds : goal.test-requires-clause-holds
test-requires-clause-holds c = λ i lt.
    let f = c.args.formula.now in
    let b = c.args.begun.now in
    let pairs = c.args.pairs.now in
    let p : Point = record { values = c.from_vec.result; truth = c.from_vec-2.result } in
    let made : SolutionAnswers f b pairs (Ok p) = made_point f b pairs c.requires.signs.0 c.requires.signs.1 c.in-Ok.values p
    (answers_at b pairs c.as_slice-lower.result.now c.as_slice-upper.result.now c.vars.result (length f.counts) (Ok c.in-Ok.values) c.as_slice-lower.ensures.value c.as_slice-upper.ensures.value c.vars.ensures c.in-Ok.ensures)
    c.from_vec.ensures
    (c.from_vec-2.ensures ∙ c.in_ok-truth.ensures ∙ ap (λ (xs : List (Option Bool)). map (λ (x : Option Bool). unwrap_or x false) xs) c.deref.ensures.value) in
    c.requires.met made.0 p made.1 made.2 i lt

pub returns-in-Ok-test : goal.returns-in-Ok-test
returns-in-Ok-test c =
    let f = c.args.formula.now in
    let b = c.args.begun.now in
    let pairs = c.args.pairs.now in
    let p : Point = record { values = c.from_vec.result; truth = c.from_vec-2.result } in
    let made : SolutionAnswers f b pairs (Ok p) = made_point f b pairs c.requires.signs.0 c.requires.signs.1 c.in-Ok.values p
    (answers_at b pairs c.as_slice-lower.result.now c.as_slice-upper.result.now c.vars.result (length f.counts) (Ok c.in-Ok.values) c.as_slice-lower.ensures.value c.as_slice-upper.ensures.value c.vars.ensures c.in-Ok.ensures)
    c.from_vec.ensures
    (c.from_vec-2.ensures ∙ c.in_ok-truth.ensures ∙ ap (λ (xs : List (Option Bool)). map (λ (x : Option Bool). unwrap_or x false) xs) c.deref.ensures.value) in
    made

pub returns-in-Err-test : goal.returns-in-Err-test
returns-in-Err-test c =
    let f = c.args.formula.now in
    let b = c.args.begun.now in
    let pairs = c.args.pairs.now in
    let p : Point = record { values = c.from_vec.result; truth = c.from_vec-2.result } in
    let made : SolutionAnswers f b pairs (Ok p) = made_point f b pairs c.requires.signs.0 c.requires.signs.1 c.in-Ok.values p
    (answers_at b pairs c.as_slice-lower.result.now c.as_slice-upper.result.now c.vars.result (length f.counts) (Ok c.in-Ok.values) c.as_slice-lower.ensures.value c.as_slice-upper.ensures.value c.vars.ensures c.in-Ok.ensures)
    c.from_vec.ensures
    (c.from_vec-2.ensures ∙ c.in_ok-truth.ensures ∙ ap (λ (xs : List (Option Bool)). map (λ (x : Option Bool). unwrap_or x false) xs) c.deref.ensures.value) in
    inr (made.0, made.1, p, made.2, c.in-Err-test.ensures.0, c.in-Err-test.ensures.1)
