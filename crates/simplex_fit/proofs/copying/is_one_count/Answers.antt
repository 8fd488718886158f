use Rattle.std.proofs.Common.{false, sym, ◌∙◌}
use Rattle.std.proofs.lemmas.Option.{get_or_from_slice_get}
use Rattle.formula.proofs.Readings.{one_count, first_below}
use Rattle.simplex_fit.proofs.copying.is_one_count.Goals as goal

pub is_count-requires : goal.is_count-requires
is_count-requires c = first_below _ _ _ c.requires c.term.ensures

pub returns-then-terms-eq1 : goal.returns-then-terms-eq1
returns-then-terms-eq1 c =
    sym (get_or_from_slice_get c.args.formula.now.counts c.term.result.0 c.is_count.result false c.is_count.ensures)
    ∙ one_count _ _ _ (sym c.terms.ensures ∙ c.if-terms-eq1.true) c.term.ensures
