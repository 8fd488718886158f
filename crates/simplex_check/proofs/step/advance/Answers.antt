use Rattle.std.proofs.Common.{◌≡◌, ℕ, length, Option, None, Ok, ap, subst, ◌∙◌, arith, get_or}
use Rattle.std.proofs.lemmas.List.{get_or_read, get_or_default}
use Rattle.tableau.specs.Table.{width}
use Rattle.simplex_law.specs.Config.{lower_of, upper_of, pair_at, zero_pair, violated_pair, IsLeastViolated}
use Rattle.simplex_law.specs.declared.bound.Bound.{Bound}
use Rattle.simplex_law.specs.declared.bound.Side.{Side}
use Rattle.simplex_law.proofs.Placing.{nonzero}
use Rattle.simplex_check.specs.Checks.{limits}
use Rattle.simplex_check.specs.Known.{known_at}
use Rattle.simplex_check.specs.inside.Choices.{ViolatedAnswers}
use Rattle.simplex_check.proofs.Stepping.{is_moved, still_known}
use Rattle.simplex_check.proofs.step.advance.Goals as goal

pub pivot-requires-clause-nonzero : goal.pivot-requires-clause-nonzero
pivot-requires-clause-nonzero c = nonzero _ _ _ _ _ c.in-Some.ensures.helps

pub returns-clause-answers : goal.returns-clause-answers
returns-clause-answers c =
    let l = limits c.args.lower.now c.args.upper.now in
    let r = c.in-Ok-Some.r in
    let v : IsLeastViolated l c.args.t.now (pair_at c.args.place.now) r c.in-Ok-Some.side =
    subst (λ (o : Option (ℕ × Side)). ViolatedAnswers l c.args.t.now (pair_at c.args.place.now) (Ok o)) c.in-Ok-Some.field-0-is c.in-Ok-Some.ensures.answers in
    let lo : c.index-lower-r.result ≡ lower_of l r = get_or_read c.args.lower.now r c.index-lower-r.result (omega (arith, v.within, c.requires.lower)) c.index-lower-r.is None in
    let up : c.index-upper-r.result ≡ upper_of l r = get_or_read c.args.upper.now r c.index-upper-r.result (omega (arith, v.within, c.requires.upper)) c.index-upper-r.is None in
    is_moved l c.args.t.now c.args.place.now r c.in-Some.e c.in-Ok-Some.side c.pivot.new.self c.bound_pair-bound.result c.violated.ensures.tidy c.requires.places v c.in-Some.ensures c.in-Ok.ensures
    (c.bound_pair-bound.ensures ∙ ap (λ (o : Option Bound). violated_pair c.in-Ok-Some.side o c.index-upper-r.result) lo ∙ ap (λ (o : Option Bound). violated_pair c.in-Ok-Some.side (lower_of l r) o) up)
    c.requires.consistent c.requires.placed

pub returns-clause-known : goal.returns-clause-known
returns-clause-known c =
    let l = limits c.args.lower.now c.args.upper.now in
    let r = c.in-Ok-Some.r in
    let v : IsLeastViolated l c.args.t.now (pair_at c.args.place.now) r c.in-Ok-Some.side =
    subst (λ (o : Option (ℕ × Side)). ViolatedAnswers l c.args.t.now (pair_at c.args.place.now) (Ok o)) c.in-Ok-Some.field-0-is c.in-Ok-Some.ensures.answers in
    let lo : c.index-lower-r.result ≡ lower_of l r = get_or_read c.args.lower.now r c.index-lower-r.result (omega (arith, v.within, c.requires.lower)) c.index-lower-r.is None in
    let up : c.index-upper-r.result ≡ upper_of l r = get_or_read c.args.upper.now r c.index-upper-r.result (omega (arith, v.within, c.requires.upper)) c.index-upper-r.is None in
    let many : length c.violated.new.known ≡ width c.args.t.now = c.violated.auto.known ∙ c.requires.many in
    let y : c.index-place-e.result ≡ pair_at c.args.place.now c.in-Some.e = get_or_read c.args.place.now c.in-Some.e c.index-place-e.result (omega (arith, c.in-Some.ensures.within, c.requires.places)) c.index-place-e.is zero_pair in
    let o : get_or c.violated.new.known r c.index-known-r.result ≡ known_at c.violated.new.known r = get_or_default c.violated.new.known r c.index-known-r.result None (omega (arith, many, v.within)) in
    still_known l c.args.t.now c.args.place.now r c.in-Some.e c.in-Ok-Some.side c.pivot.new.self c.bound_pair-bound.result c.violated.ensures.tidy c.requires.places v c.in-Some.ensures c.in-Ok.ensures
    (c.bound_pair-bound.ensures ∙ ap (λ (o : Option Bound). violated_pair c.in-Ok-Some.side o c.index-upper-r.result) lo ∙ ap (λ (o : Option Bound). violated_pair c.in-Ok-Some.side (lower_of l r) o) up)
    c.violated.new.known many c.in-Ok-Some.ensures.known c.index-place-e.result y (get_or c.violated.new.known r c.index-known-r.result) o c.way_to-way.result c.way_to-way.ensures c.move_values.new.known c.move_values.ensures
