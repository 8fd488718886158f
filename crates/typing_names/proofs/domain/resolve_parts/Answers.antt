use Rattle.std.proofs.Common.{refl}
use Rattle.typing_names.specs.Tables.{scope_in}
use Rattle.typing_names.proofs.DomainParts.{parts_read}
use Rattle.typing_names.proofs.domain.resolve_parts.Goals as goal

pub returns : goal.returns
returns c =
    parts_read (scope_in c.args.tables.now) _ c.args.d.now _ _ _ _ _ _ _ _ _ _ _ _ _ _ _ _ _ refl c.new-params.ensures refl c.as_slice.ensures c.as_slice-2.ensures c.as_slice-3.ensures c.as_slice-4.ensures
    c.in_ok-objects.ensures c.in_ok-preds.ensures c.in_ok-funcs.ensures c.in_ok-actions.ensures c.pair-declared.ensures c.pair-front.ensures c.pair.ensures
