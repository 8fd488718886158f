use Rattle.std.proofs.Common.{sym}
use Rattle.frac128.proofs.Halves.{within_halves, halves_passed}
use Rattle.frac128.proofs.Passed.{within_at}
use Rattle.frac128.proofs.integer.times_halves.Goals as goal

pub returns-clause-value : goal.returns-clause-value
returns-clause-value c = halves_passed c.args.a c.args.b c.ranges.a c.ranges.b c.requires.left c.requires.right

pub returns-clause-within : goal.returns-clause-within
returns-clause-within c =
    within_at (sym (halves_passed c.args.a c.args.b c.ranges.a c.ranges.b c.requires.left c.requires.right)) (within_halves c.args.a c.args.b c.requires.left c.requires.right)
