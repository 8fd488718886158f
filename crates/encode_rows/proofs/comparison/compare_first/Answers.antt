use Rattle.std.proofs.Common.{List, length, subst, sym, ap, ◌∙◌}
use Rattle.std.proofs.lemmas.Result.{err_from_is_err_and}
use Rattle.lin.specs.Linear.{Linear, AreBelow, replacement_of, subst as substituted}
use Rattle.lin.specs.Made.{subst_ops}
use Rattle.lin.specs.Operations.{AllFit, IsRefusal}
use Rattle.encode_rows.proofs.ComparisonLaws.{front-of-state, first-stops, first-makes, subst-below}
use Rattle.encode_rows.proofs.comparison.compare_first.Goals as goal

pub subst-requires : goal.subst-requires
subst-requires c = subst (λ (vs : List Linear). AreBelow (length vs) c.args.comparison.now.0.terms) (sym c.as_slice.ensures) c.requires.valued

pub compare_as-requires-clause-front : goal.compare_as-requires-clause-front
compare_as-requires-clause-front c = front-of-state c.args.formula.now c.args.symbols.now c.args.front c.requires.state

pub compare_as-requires-clause-below : goal.compare_as-requires-clause-below
compare_as-requires-clause-below c =
    subst-below c.args.formula.now c.args.symbols.now c.args.front c.args.comparison.now.0 c.in_ok-l.l c.requires.state
    (c.in_ok-l.ensures.1 ∙ ap (λ (vs : List Linear). substituted (replacement_of vs) c.args.comparison.now.0) c.as_slice.ensures)

pub returns-in_err-l : goal.returns-in_err-l
returns-in_err-l c =
    let p = err_from_is_err_and c.from_residual.result c.from_residual.ensures.1 in
    rw (p.1, p.2)
    (first-stops c.args.formula.now c.args.formula.now c.args.symbols.now c.args.front c.args.comparison.now (Unit {0}) c.in_err-l.field-0.0
    (subst (λ (vs : List Linear). IsRefusal (subst_ops (replacement_of vs) c.args.comparison.now.0) c.in_err-l.field-0.0) c.as_slice.ensures c.in_err-l.ensures))

pub returns : goal.returns
returns c =
    first-makes c.args.formula.now c.compare_as.new.formula c.args.symbols.now c.args.front c.args.comparison.now c.in_ok-l.l c.compare_as.result
    (subst (λ (vs : List Linear). AllFit (subst_ops (replacement_of vs) c.args.comparison.now.0)) c.as_slice.ensures c.in_ok-l.ensures.0)
    (c.in_ok-l.ensures.1 ∙ ap (λ (vs : List Linear). substituted (replacement_of vs) c.args.comparison.now.0) c.as_slice.ensures) c.compare_as.ensures
