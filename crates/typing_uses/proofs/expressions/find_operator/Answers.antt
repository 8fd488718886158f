use Rattle.std.proofs.Common.{rules}
use Rattle.typing_uses.proofs.Words.{some_operator}
use Rattle.typing_uses.proofs.expressions.find_operator.Goals as goal

pub unreachable-requires : goal.unreachable-requires
unreachable-requires c = some_operator c.args.text.now c.as_bytes.result.now c.as_bytes.ensures.value c.requires (search rules)
