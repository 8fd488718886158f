use Rattle.std.proofs.Common.{sym, ◌∙◌, ap}
use Rattle.plan_text.specs.Written.{is_count}
use Rattle.plan_text.proofs.Arguments.{read_some}
use Rattle.plan_text.proofs.Parts.{counted_read}
use Rattle.plan_text.proofs.part.read_counted.Goals as goal

pub returns : goal.returns
returns c =
    counted_read _ c.args.text.now c.args.word.start c.args.word.end c.in-Some.open _ _ _ _ _ _ _ (c.as_str-2.ensures ∙ c.in_ok-digits.ensures)
    (ap is_count (c.as_str-2.ensures ∙ sym c.as_str.ensures) ∙ sym c.is_count.ensures ∙ c.if-not-is_count.false) c.in-Some.ensures c.in-Open.is
    c.read_count-count.ensures (read_some _ _ _ _ _ _ c.in_ok-by.ensures c.in-Some-2.is) c.make_part.ensures
