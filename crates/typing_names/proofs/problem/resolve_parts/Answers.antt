use Rattle.std.proofs.Common.{refl}
use Rattle.typing_names.specs.Tables.{scope_in}
use Rattle.typing_names.proofs.ProblemLaws.{parts_read}
use Rattle.typing_names.proofs.problem.resolve_parts.Goals as goal

pub returns : goal.returns
returns c =
    parts_read (scope_in c.args.tables.now) _ c.args.p.now _ _ _ _ _ _ _ _ _ c.in_ok-items.items _ _ _ refl c.new-params.ensures refl c.as_slice.ensures c.as_slice-2.ensures c.as_slice-3.ensures
    c.in_ok-objects.ensures c.in_ok-items.ensures c.in_ok-goal.ensures c.pair-start.ensures c.pair.ensures
