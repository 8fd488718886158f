use Rattle.std.proofs.Common.{◌∙◌, ap}
use Rattle.pddl_form.specs.Names.{is_one_of}
use Rattle.pddl_form.proofs.Keywords.{finds_any}
use Rattle.pddl_domain.specs.Effect.{changes}
use Rattle.pddl_domain.proofs.effect_heads.is_change.Goals as goal

pub returns : goal.returns
returns c = c.is_some.ensures ∙ finds_any changes c.as_bytes.result.now c.find.result c.find.ensures.found ∙ ap (is_one_of changes) c.as_bytes.ensures.value
