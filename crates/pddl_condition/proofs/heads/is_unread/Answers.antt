use Rattle.std.proofs.Common.{◌∙◌, ap}
use Rattle.pddl_form.specs.Names.{is_one_of}
use Rattle.pddl_form.proofs.Keywords.{finds_any}
use Rattle.pddl_condition.specs.Condition.{unread}
use Rattle.pddl_condition.proofs.heads.is_unread.Goals as goal

pub returns : goal.returns
returns c = c.is_some.ensures ∙ finds_any unread c.as_bytes.result.now c.find.result c.find.ensures.found ∙ ap (is_one_of unread) c.as_bytes.ensures.value
