use Rattle.std.proofs.Common.{List, length, subst, sym, ap, ◌∙◌}
use Rattle.std.proofs.lemmas.Result.{err_from_is_err_and}
use Rattle.lin.specs.Linear.{Linear, AreBelow, replacement_of, subst as substituted}
use Rattle.lin.specs.Made.{subst_ops}
use Rattle.lin.specs.Operations.{AllFit, IsRefusal}
use Rattle.encode_rows.proofs.ComparisonLaws.{front-of-state, subst-below}
use Rattle.encode_rows.proofs.SettingLaws.{set-unadded, set-state, set-known, set-stops, set-makes, set-more-of, held-value, value-below}
use Rattle.encode_rows.proofs.setting.set_one.Goals as goal

pub subst-requires : goal.subst-requires
subst-requires c = subst (λ (vs : List Linear). AreBelow (length vs) c.args.set.now.1.terms) (sym c.as_slice.ensures) c.requires.valued

pub returns-in_err-w-clause-makes : goal.returns-in_err-w-clause-makes
returns-in_err-w-clause-makes c =
    let p = err_from_is_err_and c.from_residual.result c.from_residual.ensures.1 in
    rw (p.1, p.2) (set-unadded c.args.formula.now c.add_number.new.formula c.args.symbols.now c.args.on c.args.set.now (Unit {0}) c.in_err-w.field-0.0 c.in_err-w.ensures)

pub returns-in_err-v-clause-makes : goal.returns-in_err-v-clause-makes
returns-in_err-v-clause-makes c =
    let p = err_from_is_err_and c.from_residual-in_err-v.result c.from_residual-in_err-v.ensures.1 in
    rw (p.1, p.2)
    (set-stops c.args.formula.now c.add_number.new.formula c.args.symbols.now c.args.on c.args.set.now c.in_ok-w.w c.in_ok-w.ensures (Unit {0}) c.in_err-v.field-0.0
    (subst (λ (vs : List Linear). IsRefusal (subst_ops (replacement_of vs) c.args.set.now.1) c.in_err-v.field-0.0) c.as_slice.ensures c.in_err-v.ensures))

pub tie-requires-clause-front : goal.tie-requires-clause-front
tie-requires-clause-front c =
    front-of-state c.add_number.new.formula c.args.symbols.now c.args.on (set-state c.args.formula.now c.add_number.new.formula c.args.symbols.now c.args.on c.args.set.now c.in_ok-w.w c.in_ok-w.ensures c.requires.state)

pub tie-requires-clause-known : goal.tie-requires-clause-known
tie-requires-clause-known c = set-known c.args.formula.now c.add_number.new.formula c.args.symbols.now c.args.on c.args.set.now c.in_ok-w.w c.in_ok-w.ensures c.requires.state

pub tie-requires-clause-left : goal.tie-requires-clause-left
tie-requires-clause-left c =
    subst-below c.add_number.new.formula c.args.symbols.now c.args.on c.args.set.now.1 c.in_ok-v.v
    (set-state c.args.formula.now c.add_number.new.formula c.args.symbols.now c.args.on c.args.set.now c.in_ok-w.w c.in_ok-w.ensures c.requires.state)
    (c.in_ok-v.ensures.1 ∙ ap (λ (vs : List Linear). substituted (replacement_of vs) c.args.set.now.1) c.as_slice.ensures)

pub tie-requires-clause-right : goal.tie-requires-clause-right
tie-requires-clause-right c =
    value-below c.add_number.new.formula c.args.symbols.now c.args.on c.args.set.now.0 c.index-as_slice-set.result
    (set-state c.args.formula.now c.add_number.new.formula c.args.symbols.now c.args.on c.args.set.now c.in_ok-w.w c.in_ok-w.ensures c.requires.state)
    (held-value c.args.symbols.now.values c.as_slice-2.result.now c.args.set.now.0 _ c.index-as_slice-set.result c.as_slice-2.ensures c.requires.within c.index-as_slice-set.is)

pub returns-clause-makes : goal.returns-clause-makes
returns-clause-makes c =
    set-makes c.args.formula.now c.add_number.new.formula c.args.symbols.now c.args.on c.args.set.now c.in_ok-w.w c.in_ok-w.ensures c.tie.new.formula c.in_ok-v.v c.index-as_slice-set.result c.tie.result (
      subst (λ (vs : List Linear). AllFit (subst_ops (replacement_of vs) c.args.set.now.1)) c.as_slice.ensures c.in_ok-v.ensures.0,
      c.in_ok-v.ensures.1 ∙ ap (λ (vs : List Linear). substituted (replacement_of vs) c.args.set.now.1) c.as_slice.ensures,
    )
    (held-value c.args.symbols.now.values c.as_slice-2.result.now c.args.set.now.0 _ c.index-as_slice-set.result c.as_slice-2.ensures c.requires.within c.index-as_slice-set.is) c.tie.ensures

pub returns-clause-more : goal.returns-clause-more
returns-clause-more c =
    set-more-of c.args.formula.now c.tie.new.formula c.args.symbols.now c.args.on c.args.set.now (Unit {0}) c.tie.result c.requires.state
    (set-makes c.args.formula.now c.add_number.new.formula c.args.symbols.now c.args.on c.args.set.now c.in_ok-w.w c.in_ok-w.ensures c.tie.new.formula c.in_ok-v.v c.index-as_slice-set.result c.tie.result (
      subst (λ (vs : List Linear). AllFit (subst_ops (replacement_of vs) c.args.set.now.1)) c.as_slice.ensures c.in_ok-v.ensures.0,
      c.in_ok-v.ensures.1 ∙ ap (λ (vs : List Linear). substituted (replacement_of vs) c.args.set.now.1) c.as_slice.ensures,
    )
    (held-value c.args.symbols.now.values c.as_slice-2.result.now c.args.set.now.0 _ c.index-as_slice-set.result c.as_slice-2.ensures c.requires.within c.index-as_slice-set.is) c.tie.ensures)
