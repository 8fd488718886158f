use Rattle.std.proofs.Common.{rules}
use Rattle.typing_uses.proofs.Words.{some_relation}
use Rattle.typing_uses.proofs.conditions.find_relation.Goals as goal

pub unreachable-requires : goal.unreachable-requires
unreachable-requires c = some_relation c.args.text.now c.as_bytes.result.now c.as_bytes.ensures.value c.requires (search rules)
