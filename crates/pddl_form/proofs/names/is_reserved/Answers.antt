use Rattle.std.proofs.Common.{◌∙◌, ap}
use Rattle.pddl_form.specs.Names.{is_reserved, reserved}
use Rattle.pddl_form.specs.Names.{is_one_of}
use Rattle.pddl_form.proofs.Keywords.{finds_any}
use Rattle.pddl_form.proofs.names.is_reserved.Goals as goal

pub returns : goal.returns
unfolding is_reserved
returns c = c.is_some.ensures ∙ finds_any reserved c.as_bytes.result.now c.find.result c.find.ensures.found ∙ ap (is_one_of reserved) c.as_bytes.ensures.value
