use Rattle.std.proofs.Common.{◌∙◌, sym, subst}
use Rattle.rational.specs.Fraction.{Fraction}
use Rattle.encode_rows.specs.Bounds.{CountAnswers}
use Rattle.encode_rows.proofs.BoundLaws.{first-nonzero, count-answers, linear-answers}
use Rattle.encode_rows.proofs.bound.bound_of.Goals as goal

pub of_count-requires : goal.of_count-requires
of_count-requires c = first-nonzero c.args.l.now c.term-first.result c.term-first.ensures

pub of_linear-requires : goal.of_linear-requires
of_linear-requires c = first-nonzero c.args.l.now c.term-first.result c.term-first.ensures

pub returns-then-is_one_count : goal.returns-then-is_one_count
returns-then-is_one_count c =
    count-answers _ c.args.strict c.args.l.now c.term-first.result c.of_count.result c.term-first.ensures (sym c.is_one_count.ensures ∙ c.if-is_one_count.true)
    (subst (λ (k : Fraction). CountAnswers c.term-first.result.0 c.term-first.result.1 k c.args.strict c.of_count.result) c.constant-then-is_one_count.ensures c.of_count.ensures)

pub returns-else-is_one_count : goal.returns-else-is_one_count
returns-else-is_one_count c =
    linear-answers _ c.args.strict c.args.l.now c.term-first.result c.of_linear.result c.term-first.ensures (sym c.is_one_count.ensures ∙ c.if-is_one_count.false) c.requires c.of_linear.ensures
