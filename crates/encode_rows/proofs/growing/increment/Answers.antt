use Rattle.std.proofs.lemmas.Result.{err_from_is_err_and}
use Rattle.encode_rows.proofs.SettingLaws.{held-value}
use Rattle.encode_rows.proofs.GrowingLaws.{increment-stops, increment-stops-2, increment-made}
use Rattle.encode_rows.proofs.growing.increment.Goals as goal

pub returns-in_err-growth-clause-grows : goal.returns-in_err-growth-clause-grows
returns-in_err-growth-clause-grows c =
    let p = err_from_is_err_and c.from_residual-in_err-growth.result c.from_residual-in_err-growth.ensures.1 in
    rw (p.1, p.2) (increment-stops c.args.c c.args.inc.now c.args.values.now c.in_ok-own.own c.in_ok-own.own c.in_ok-own.ensures (Unit {0}) c.args.values.now c.in_err-growth.field-0.0 c.in_err-growth.ensures)

pub returns-in_err-grown-clause-grows : goal.returns-in_err-grown-clause-grows
returns-in_err-grown-clause-grows c =
    let p = err_from_is_err_and c.from_residual-in_err-grown.result c.from_residual-in_err-grown.ensures.1 in
    rw (p.1, p.2)
    (increment-stops-2 c.args.c c.args.inc.now c.args.values.now c.in_ok-own.own c.in_ok-growth.growth c.in_ok-own.ensures c.index-as_slice-inc.result
    (held-value c.args.values.now c.as_slice.result.now c.args.inc.now.0 _ c.index-as_slice-inc.result c.as_slice.ensures c.requires c.index-as_slice-inc.is) c.in_ok-growth.ensures (Unit {0}) c.args.values.now
    c.in_err-grown.field-0.0 c.in_err-grown.ensures)

pub returns-clause-grows : goal.returns-clause-grows
returns-clause-grows c =
    increment-made c.args.c c.args.inc.now c.args.values.now c.in_ok-own.own c.in_ok-growth.growth c.in_ok-own.ensures c.index-as_slice-inc.result
    (held-value c.args.values.now c.as_slice.result.now c.args.inc.now.0 _ c.index-as_slice-inc.result c.as_slice.ensures c.requires c.index-as_slice-inc.is) c.in_ok-growth.ensures (Unit {0}) tt c.set.new.self
    c.in_ok-grown.grown c.in_ok-grown.ensures c.requires c.set.ensures
