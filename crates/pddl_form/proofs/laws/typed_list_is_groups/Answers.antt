use Rattle.pddl_form.proofs.Groups.{typed_list_is_groups}
use Rattle.pddl_form.proofs.laws.typed_list_is_groups.Goals as goal

pub returns : goal.returns
returns c = typed_list_is_groups
