use Rattle.std.proofs.Common.{◌≡◌, ◌∙◌, true, subst, sym}
use lib.IntN.{pos, negsuc}
use Rattle.rational.specs.Fraction.{Fraction, whole}
use Rattle.rational.proofs.FieldLaws.{quotient-itself}
use Rattle.frac128.specs.Operations.{Fits}
use Rattle.frac128.specs.declared.operations.Op.TheVariants.{Add}
use Rattle.lin.specs.Linear.{Linear, fixed, var, add}
use Rattle.encode_rows.specs.Beginning.{Bounds}
use Rattle.encode_rows.proofs.BeginningLaws.{fits-minus, sum-below}
use Rattle.encode_rows.proofs.beginning.put_most_one.Goals as goal

pub plus-requires : goal.plus-requires
plus-requires c = subst (Fits Add (whole (pos 0))) (sym (c.ratio.ensures ∙ quotient-itself (whole (negsuc 0)))) fits-minus

pub put_bound-requires-clause-below : goal.put_bound-requires-clause-below
put_bound-requires-clause-below c = sum-below c.args.c _ c.ratio.result c.in_ok-l.l c.in_ok-l.ensures c.requires.known

pub returns : goal.returns
returns c =
    let e = subst (λ (k : Fraction). c.in_ok-l.l ≡ add (var c.args.c) (fixed k)) (c.ratio.ensures ∙ quotient-itself (whole (negsuc 0))) c.in_ok-l.ensures in
    subst (λ (l : Linear). Bounds c.args.formula.now true l c.put_bound.new.formula c.put_bound.result) e c.put_bound.ensures
