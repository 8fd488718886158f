use Rattle.bound_theory.proofs.PointLaws.{upper_reads, lower_reads, read_is}
use Rattle.bound_theory.proofs.testing.holds.Goals as goal

pub returns-then-lit : goal.returns-then-lit
returns-then-lit c = λ t. upper_reads c.args.formula.now.counts c.args.formula.now.atoms c.args.values.now c.args.lit c.in-Some.bound c.index-values-var.result c.in-Some.ensures c.if-lit.true (read_is c.args.values.now c.in-Some.bound.var c.index-values-var.result c.if-var-values.false c.index-values-var.is) (c.is_at_most.ensures t)

pub returns-in-Some-next : goal.returns-in-Some-next
returns-in-Some-next c = λ t.
    lower_reads c.args.formula.now.counts c.args.formula.now.atoms c.args.values.now c.args.lit c.in-Some.bound c.in-Some-next.least c.index-values-var-in-Some-next.result c.in-Some.ensures c.if-lit.false (read_is c.args.values.now c.in-Some.bound.var c.index-values-var-in-Some-next.result c.if-var-values.false c.index-values-var-in-Some-next.is)
    c.in-Some-next.ensures (c.is_at_most-in-Some-next.ensures t)
