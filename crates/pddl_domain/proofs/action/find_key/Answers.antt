use Rattle.std.proofs.Common.{rules}
use Rattle.pddl_domain.proofs.Keywords.{parameters_read, no_key_read}
use Rattle.pddl_domain.proofs.action.find_key.Goals as goal

pub returns-in-Some-eq1-rows : goal.returns-in-Some-eq1-rows
returns-in-Some-eq1-rows c = parameters_read c.args.text.now c.as_bytes.result.now c.as_bytes.ensures.value (search rules)

pub returns-in-None-rows : goal.returns-in-None-rows
returns-in-None-rows c = no_key_read c.args.text.now c.as_bytes.result.now c.as_bytes.ensures.value (search rules)
