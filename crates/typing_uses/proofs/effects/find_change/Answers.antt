use Rattle.std.proofs.Common.{rules}
use Rattle.typing_uses.proofs.Words.{some_change}
use Rattle.typing_uses.proofs.effects.find_change.Goals as goal

pub unreachable-requires : goal.unreachable-requires
unreachable-requires c = some_change c.args.text.now c.as_bytes.result.now c.as_bytes.ensures.value c.requires (search rules)
