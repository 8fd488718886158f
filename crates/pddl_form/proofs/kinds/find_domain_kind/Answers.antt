use Rattle.std.proofs.Common.{rules, sym, ◌∙◌}
use Rattle.pddl_form.proofs.Keywords.{no_domain_kind}
use Rattle.pddl_form.proofs.kinds.find_domain_kind.Goals as goal

pub returns-in-None-rows : goal.returns-in-None-rows
returns-in-None-rows c = c.other_kind.ensures ∙ sym (no_domain_kind c.args.text.now c.as_bytes.result.now c.as_bytes.ensures.value (search rules))
