use Rattle.std.proofs.Common.{List, length, subst, sym, ap, ◌∙◌}
use Rattle.std.proofs.lemmas.Result.{err_from_is_err_and}
use Rattle.lin.specs.Linear.{Linear, AreBelow, replacement_of, subst as substituted}
use Rattle.lin.specs.Made.{subst_ops}
use Rattle.lin.specs.Operations.{IsRefusal}
use Rattle.encode_rows.proofs.ComparisonLaws.{front-of-state}
use Rattle.encode_rows.proofs.LastingLaws.{changed-memory, changed-stops, changed-makes, changed-below}
use Rattle.encode_rows.proofs.lasting.compare_changed.Goals as goal

pub subst-requires : goal.subst-requires
subst-requires c = subst (λ (vs : List Linear). AreBelow (length vs) c.args.comparison.now.0.terms) (sym c.as_slice.ensures) c.requires.valued

pub returns-in_err-l : goal.returns-in_err-l
returns-in_err-l c =
    let p = err_from_is_err_and c.from_residual.result c.from_residual.ensures.1 in
    rw (p.1, p.2)
    (changed-memory c.args.formula.now c.args.formula.now c.args.symbols.now c.args.front c.args.d.now c.args.c c.args.comparison.now (Unit {0}) c.in_err-l.field-0.0 c.requires.replaced
    (subst (λ (vs : List Linear). IsRefusal (subst_ops (replacement_of vs) c.args.comparison.now.0) c.in_err-l.field-0.0) c.as_slice.ensures c.in_err-l.ensures))

pub returns-in_err-last : goal.returns-in_err-last
returns-in_err-last c =
    let p = err_from_is_err_and c.from_residual-in_err-last.result c.from_residual-in_err-last.ensures.1 in
    rw (p.1, p.2)
    (changed-stops c.args.formula.now c.args.formula.now c.args.symbols.now c.args.front c.args.d.now c.args.c c.args.comparison.now c.in_ok-l.l
    (c.in_ok-l.ensures.1 ∙ ap (λ (vs : List Linear). substituted (replacement_of vs) c.args.comparison.now.0) c.as_slice.ensures) (Unit {0}) c.in_err-last.field-0.0 c.in_err-last.ensures)

pub compare_as-requires-clause-front : goal.compare_as-requires-clause-front
compare_as-requires-clause-front c = front-of-state c.args.formula.now c.args.symbols.now c.args.front c.requires.state

pub compare_as-requires-clause-below : goal.compare_as-requires-clause-below
compare_as-requires-clause-below c =
    changed-below c.args.formula.now c.args.formula.now c.args.symbols.now c.args.front c.args.d.now c.args.c c.args.comparison.now c.in_ok-l.l
    (c.in_ok-l.ensures.1 ∙ ap (λ (vs : List Linear). substituted (replacement_of vs) c.args.comparison.now.0) c.as_slice.ensures) c.in_ok-last.last c.requires.state c.requires.known c.in_ok-last.ensures.1

pub returns : goal.returns
returns c =
    changed-makes c.args.formula.now c.compare_as.new.formula c.args.symbols.now c.args.front c.args.d.now c.args.c c.args.comparison.now c.in_ok-l.l
    (c.in_ok-l.ensures.1 ∙ ap (λ (vs : List Linear). substituted (replacement_of vs) c.args.comparison.now.0) c.as_slice.ensures) c.in_ok-last.last c.compare_as.result c.in_ok-last.ensures c.compare_as.ensures
