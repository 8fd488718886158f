use Rattle.std.proofs.Common.{false, length, subst, sym}
use Rattle.std.proofs.lemmas.Result.{err_from_is_err_and}
use Rattle.lin.specs.Linear.{Linear, AreBelow}
use Rattle.encode_rows.specs.Symbols.{Compares, fact_row}
use Rattle.encode_rows.proofs.ComparisonLaws.{front-later, below-later, equal-makes, equal-stops, negative-below}
use Rattle.encode_rows.proofs.comparison.compare_equal.Goals as goal

pub compare-requires-2-clause-front : goal.compare-requires-2-clause-front
compare-requires-2-clause-front c =
    front-later c.args.formula.now c.compare.new.formula c.args.front (Unit {0}) tt (fact_row c.requires.front.literal false c.args.l.now) c.requires.front
    (c.in_ok-compare.ensures c.requires.front.made c.requires.front.literal c.requires.front.stands c.requires.front.knows)

pub compare-requires-2-clause-below : goal.compare-requires-2-clause-below
compare-requires-2-clause-below c =
    subst (λ (w : Linear). AreBelow (length c.compare.new.formula.counts) w.terms) (sym c.in_ok-negative.ensures)
    (negative-below (length c.compare.new.formula.counts) c.args.l.now
    (below-later c.args.formula.now c.compare.new.formula c.args.front (Unit {0}) tt (fact_row c.requires.front.literal false c.args.l.now) c.requires.front
    (c.in_ok-compare.ensures c.requires.front.made c.requires.front.literal c.requires.front.stands c.requires.front.knows) c.args.l.now.terms c.requires.below))

pub returns-in_err-compare : goal.returns-in_err-compare
returns-in_err-compare c =
    let p = err_from_is_err_and c.from_residual.result c.from_residual.ensures.1 in
    rw (p.1, p.2) (equal-stops c.args.formula.now c.compare.new.formula c.args.front c.args.l.now (Unit {0}) (Unit {0}) c.in_err-compare.field-0.0 c.in_err-compare.ensures)

pub returns-in_err-negative : goal.returns-in_err-negative
returns-in_err-negative c =
    let p = err_from_is_err_and c.from_residual-in_err-negative.result c.from_residual-in_err-negative.ensures.1 in
    rw (p.1, p.2) (λ m f s k. tt)

pub returns : goal.returns
returns c =
    equal-makes c.args.formula.now c.compare.new.formula c.args.front c.args.l.now c.compare-2.new.formula c.compare-2.result (Unit {0}) tt c.in_ok-compare.ensures
    (subst (λ (w : Linear). Compares c.compare.new.formula c.args.front false w c.compare-2.new.formula c.compare-2.result) c.in_ok-negative.ensures c.compare-2.ensures)
