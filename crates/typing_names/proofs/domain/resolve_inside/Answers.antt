use Rattle.std.proofs.Common.{◌≡◌, List, ◌∙◌, ap, sym}
use Rattle.pddl_form.specs.declared.typed.Typed.{Typed}
use Rattle.pddl_task.specs.Task.{parents}
use Rattle.typing_names.specs.Domain.{type_names, types_in}
use Rattle.typing_names.proofs.domain.resolve_inside.Goals as goal

pub returns-clause-types : goal.returns-clause-types
returns-clause-types c = c.in_ok-types.ensures.types ∙ ap types_in c.as_slice.ensures

pub returns-clause-above : goal.returns-clause-above
returns-clause-above c = c.in_ok-types.ensures.above ∙ ap (λ (ts : List Typed). parents (types_in ts)) c.as_slice.ensures

pub resolve_types-requires : goal.resolve_types-requires
resolve_types-requires c = c.requires.types ∙ ap type_names (sym c.as_slice.ensures)
