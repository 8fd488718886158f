use Rattle.std.proofs.Common.{◌∙◌, sym}
use Rattle.encode_rows.proofs.BoundLaws.{one_is_count, first_is_below}
use Rattle.encode_rows.proofs.bound.is_one_count.Goals as goal

pub is_count-requires : goal.is_count-requires
is_count-requires c = first_is_below _ c.args.l.now.terms c.term.result c.term.ensures c.requires

pub returns-then-terms-eq1 : goal.returns-then-terms-eq1
returns-then-terms-eq1 c = one_is_count _ c.args.l.now.terms c.term.result _ (sym c.terms.ensures ∙ c.if-terms-eq1.true) c.term.ensures c.is_count.ensures
