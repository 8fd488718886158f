use Rattle.std.proofs.Common.{rules, sym, ◌∙◌}
use Rattle.pddl_condition.proofs.Keywords.{no_head_read}
use Rattle.pddl_condition.proofs.heads.find_head.Goals as goal

pub returns-in-None-rows : goal.returns-in-None-rows
returns-in-None-rows c = c.other_head.ensures ∙ sym (no_head_read c.args.text.now c.as_bytes.result.now c.as_bytes.ensures.value (search rules))
