use Rattle.std.proofs.Common.{length, sym, ◌∙◌}
use Rattle.cert_lines.proofs.Order.{lengths_decide, not_empty}
use Rattle.cert_lines.proofs.clauses.may_follow.Goals as goal

pub returns-else-last-digits : goal.returns-else-last-digits
returns-else-last-digits c =
    let last = c.args.last.now in
    let some = not_empty (length last) (sym c.is_empty.ensures ∙ c.if-is_empty.false) in
    lengths_decide last c.args.digits.now c.requires some (sym c.is_number.ensures ∙ c.if-not-is_number.false) c.if-last-digits.false
