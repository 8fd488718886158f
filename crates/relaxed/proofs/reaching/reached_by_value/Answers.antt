use Rattle.std.proofs.Common.{◌∙◌, sym, ap, subst, List}
use Rattle.std.proofs.lemmas.Result.{err_from_is_err_and}
use Rattle.frac128.specs.declared.operations.Wide.{Wide}
use Rattle.relaxed.specs.declared.range.Side.TheVariants.{Least, Greatest}
use Rattle.relaxed.specs.Range.{range_operations}
use Rattle.relaxed.specs.Layers.{box}
use Rattle.relaxed.specs.inside.Kept.{interval_in, layer_of}
use Rattle.relaxed.specs.inside.Ranging.{IsFirstPassing}
use Rattle.relaxed.proofs.RangeSteps.{passing_left, passing_right}
use Rattle.relaxed.proofs.PartSteps.{set_operations-at}
use Rattle.relaxed.proofs.reaching.reached_by_value.Goals as goal

pub returns-in_err-low-in-Some : goal.returns-in_err-low-in-Some
returns-in_err-low-in-Some c =
    let y = layer_of c.args.table.now in
    let l = c.args.l.now in
    let w = c.in_err-low-in-Some.field-0.0 in
    let is = set_operations-at y c.args.f l c.in-Some.old (λ e. c.if-terms-eq0.false (c.terms.ensures ∙ e)) (c.in-Some.ensures ∙ ap (λ xs. interval_in xs c.args.f) c.as_slice.ensures) in
    let p = err_from_is_err_and c.from_residual.result c.from_residual.ensures.1 in
    rw (p.1, p.2) (subst (λ (ops : List Wide). IsFirstPassing ops w) (sym is)
    (passing_left (range_operations Least (box y) l) (range_operations Greatest (box y) l) w c.in_err-low-in-Some.ensures))

pub returns-in_err-high-in-Some : goal.returns-in_err-high-in-Some
returns-in_err-high-in-Some c =
    let y = layer_of c.args.table.now in
    let l = c.args.l.now in
    let w = c.in_err-high-in-Some.field-0.0 in
    let is = set_operations-at y c.args.f l c.in-Some.old (λ e. c.if-terms-eq0.false (c.terms.ensures ∙ e)) (c.in-Some.ensures ∙ ap (λ xs. interval_in xs c.args.f) c.as_slice.ensures) in
    let p = err_from_is_err_and c.from_residual-in_err-high-in-Some.result c.from_residual-in_err-high-in-Some.ensures.1 in
    rw (p.1, p.2) (subst (λ (ops : List Wide). IsFirstPassing ops w) (sym is)
    (passing_right (range_operations Least (box y) l) (range_operations Greatest (box y) l) w c.in_ok-low-in-Some.ensures.0 c.in_err-high-in-Some.ensures))
