use Rattle.std.proofs.lemmas.Result.{err_from_is_err_and}
use Rattle.lin.specs.Linear.{point_of}
use Rattle.lin.specs.Negative.{negative}
use Rattle.formula.specs.Reading.{affirmed}
use Rattle.formula.proofs.Holding.{passed_at, tested_at, affirmed_is, denied_as, known_more}
use Rattle.formula.proofs.meeting.holds.Goals as goal

pub value-requires : goal.value-requires
value-requires c = known_more _ c.args.counts.now c.args.atom.now c.requires.atom c.requires.enough

pub neg_value-requires : goal.neg_value-requires
neg_value-requires c = known_more _ c.args.counts.now c.args.atom.now c.requires.atom c.requires.enough

pub returns-in_err-value : goal.returns-in_err-value
returns-in_err-value c =
    let p = err_from_is_err_and c.from_residual.result c.from_residual.ensures.1 in
    rw (p.1, p.2) (passed_at (point_of c.args.at.now) (affirmed c.args.atom.now) _ _ (affirmed_is c.args.counts.now c.args.atom.now _ c.if-pos.true) c.in_err-value.ensures)

pub returns-then-pos : goal.returns-then-pos
returns-then-pos c =
    tested_at (point_of c.args.at.now) (affirmed c.args.atom.now) _ _ _ (affirmed_is c.args.counts.now c.args.atom.now _ c.if-pos.true) c.in_ok-value.ensures c.is_in_order.ensures

pub returns-in_err-value-2 : goal.returns-in_err-value-2
returns-in_err-value-2 c =
    let p = err_from_is_err_and c.from_residual-in_err-value-2.result c.from_residual-in_err-value-2.ensures.1 in
    rw (p.1, p.2)
    (passed_at (point_of c.args.at.now) (record { lin = negative c.args.atom.now.lin; strict = c.denied_bound-strict.result.0; bound = c.denied_bound-strict.result.1 }) _ _
    (denied_as c.args.counts.now c.args.atom.now _ _ _ c.if-pos.false c.denied_bound-strict.ensures.strict c.denied_bound-strict.ensures.bound) c.in_err-value-2.ensures)

pub returns : goal.returns
returns c =
    tested_at (point_of c.args.at.now) (record { lin = negative c.args.atom.now.lin; strict = c.denied_bound-strict.result.0; bound = c.denied_bound-strict.result.1 }) _ _ _
    (denied_as c.args.counts.now c.args.atom.now _ _ _ c.if-pos.false c.denied_bound-strict.ensures.strict c.denied_bound-strict.ensures.bound) c.in_ok-value-2.ensures c.is_in_order-2.ensures
