use Rattle.ground_seen.proofs.Naming.{past_func}
use Rattle.ground_seen.proofs.changing.changes_func.Goals as goal

pub returns-then-func-funcs : goal.returns-then-func-funcs
returns-then-func-funcs c = past_func _ c.funcs.ensures.numbered _ _ c.funcs.ensures.value c.if-func-funcs.true
