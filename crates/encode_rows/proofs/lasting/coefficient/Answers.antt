use Rattle.std.proofs.Common.{◌∙◌, ◌≤◌, length, arith}
use lib.IntN.{pos}
use Rattle.rational.specs.Fraction.{whole}
use Rattle.rational.proofs.FieldLaws.{quotient-itself}
use Rattle.encode_rows.proofs.LastingLaws.{coefficient-found, coefficient-passed, coefficient-none}
use Rattle.encode_rows.proofs.lasting.coefficient.Goals as goal

pub returns-then-term-v : goal.returns-then-term-v
returns-then-term-v c = coefficient-found 0 c.args.v c.args.l.now.terms c.loop-i.i c.term-term.result c.args.l.now.normal c.term-term.ensures c.if-term-v.true

pub loop-i-preserved : goal.loop-i-preserved
loop-i-preserved c = coefficient-passed c.args.v c.args.l.now.terms c.loop-i.i c.term-term.result c.term-term.ensures c.if-term-v.false c.loop-i.invariant

pub returns : goal.returns
returns c =
    let l : length c.args.l.now.terms ≤ c.loop-i.i = omega (arith, c.terms-i-end.ensures) in
    coefficient-none c.args.v c.args.l.now.terms c.loop-i.i c.ratio.result l c.loop-i.invariant (c.ratio.ensures ∙ quotient-itself (whole (pos 0)))
