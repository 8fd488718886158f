use Rattle.std.proofs.lemmas.Result.{err_from_is_err_and}
use Rattle.encode_laws.specs.Rows.{opposite}
use Rattle.encode_rows.specs.Setting.{equation}
use Rattle.encode_rows.proofs.BeginningLaws.{own-below}
use Rattle.encode_rows.proofs.ComparisonLaws.{front-later, below-later}
use Rattle.encode_rows.proofs.SettingLaws.{opposite-knows, front-opposite, tied-stops, tied-makes}
use Rattle.encode_rows.proofs.setting.tie.Goals as goal

pub returns-in_err-own : goal.returns-in_err-own
returns-in_err-own c =
    let p = err_from_is_err_and c.from_residual.result c.from_residual.ensures.1 in
    rw (p.1, p.2) (λ m o s k. tt)

pub equate-requires-clause-front : goal.equate-requires-clause-front
equate-requires-clause-front c = front-opposite c.args.formula.now c.args.on c.opposite.result c.opposite.ensures c.requires.front

pub equate-requires-clause-left : goal.equate-requires-clause-left
equate-requires-clause-left c = own-below c.args.w _ c.in_ok-own.own c.in_ok-own.ensures c.requires.known

pub returns-in_err-equate : goal.returns-in_err-equate
returns-in_err-equate c =
    let p = err_from_is_err_and c.from_residual-in_err-equate.result c.from_residual-in_err-equate.ensures.1 in
    rw (p.1, p.2)
    (tied-stops c.args.formula.now c.equate.new.formula c.args.on c.opposite.result c.args.w c.in_ok-own.own c.args.v.now c.args.u.now c.in_ok-own.ensures c.opposite.ensures (Unit {0}) (Unit {0}) c.in_err-equate.field-0.0
    c.in_err-equate.ensures)

pub equate-requires-2-clause-front : goal.equate-requires-2-clause-front
equate-requires-2-clause-front c =
    let h = c.requires.front in
    let k = opposite-knows h.made h.literal c.args.on c.opposite.result c.opposite.ensures h.knows in
    front-later c.args.formula.now c.equate.new.formula c.args.on (Unit {0}) tt (equation (opposite h.literal) c.in_ok-own.own c.args.v.now) h (c.in_ok-equate.ensures h.made (opposite h.literal) h.stands k)

pub equate-requires-2-clause-left : goal.equate-requires-2-clause-left
equate-requires-2-clause-left c =
    let h = c.requires.front in
    let k = opposite-knows h.made h.literal c.args.on c.opposite.result c.opposite.ensures h.knows in
    below-later c.args.formula.now c.equate.new.formula c.args.on (Unit {0}) tt (equation (opposite h.literal) c.in_ok-own.own c.args.v.now) h (c.in_ok-equate.ensures h.made (opposite h.literal) h.stands k) c.in_ok-own.own.terms
    (own-below c.args.w _ c.in_ok-own.own c.in_ok-own.ensures c.requires.known)

pub equate-requires-2-clause-right : goal.equate-requires-2-clause-right
equate-requires-2-clause-right c =
    let h = c.requires.front in
    let k = opposite-knows h.made h.literal c.args.on c.opposite.result c.opposite.ensures h.knows in
    below-later c.args.formula.now c.equate.new.formula c.args.on (Unit {0}) tt (equation (opposite h.literal) c.in_ok-own.own c.args.v.now) h (c.in_ok-equate.ensures h.made (opposite h.literal) h.stands k) c.args.u.now.terms c.requires.right

pub returns : goal.returns
returns c =
    tied-makes c.args.formula.now c.equate.new.formula c.args.on c.opposite.result c.args.w c.in_ok-own.own c.args.v.now c.args.u.now c.in_ok-own.ensures c.opposite.ensures (Unit {0}) c.equate-2.new.formula tt c.equate-2.result
    c.in_ok-equate.ensures c.equate-2.ensures
