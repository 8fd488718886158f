use Rattle.std.proofs.Common.{sym, subst}
use Rattle.std.proofs.lemmas.Result.{err_from_is_err_and}
use Rattle.lin.specs.declared.comparison.Cmp.{Cmp}
use Rattle.relaxed.specs.Named.{comparison_operations}
use Rattle.relaxed.specs.inside.Kept.{layer_of}
use Rattle.relaxed.specs.inside.Ranging.{IsFirstPassing}
use Rattle.relaxed.proofs.ComparisonSteps.{least_fails, greatest_fails}
use Rattle.relaxed.proofs.support.comparison_may_hold.Goals as goal

pub returns-in_err-low : goal.returns-in_err-low
returns-in_err-low c =
    let p = err_from_is_err_and c.from_residual.result c.from_residual.ensures.1 in
    rw (p.1, p.2) (least_fails (layer_of c.args.table.now) c.args.l.now c.args.cmp c.in_err-low.field-0.0 c.in_err-low.ensures)

pub returns-in_err-high-in-Eq : goal.returns-in_err-high-in-Eq
returns-in_err-high-in-Eq c =
    let p = err_from_is_err_and c.from_residual-in_err-high-in-Eq.result c.from_residual-in_err-high-in-Eq.ensures.1 in
    let w = c.in_err-high-in-Eq.field-0.0 in
    rw (p.1, p.2) (subst (λ (k : Cmp). IsFirstPassing (comparison_operations (layer_of c.args.table.now) c.args.l.now k) w) (sym c.in-Eq.is)
    (greatest_fails (layer_of c.args.table.now) c.args.l.now w c.in_ok-low.ensures.0 c.in_err-high-in-Eq.ensures))
