use Rattle.std.proofs.Common.{sym, ◌∙◌}
use Rattle.formula.proofs.Readings.{one_count, first_below}
use Rattle.formula.proofs.reading.is_one_count.Goals as goal

pub bounds-counts-term : goal.bounds-counts-term
bounds-counts-term c = first_below _ _ _ c.requires c.term.ensures

pub returns-then-terms-eq1 : goal.returns-then-terms-eq1
returns-then-terms-eq1 c = one_count _ _ _ (sym c.terms.ensures ∙ c.if-terms-eq1.true) c.term.ensures
