use Rattle.std.proofs.Common.{arith}
use Rattle.frac128.proofs.Powers.{power_below, power_above}
use Rattle.frac128.proofs.decimal.power_of_ten.Goals as goal

pub pow-requires : goal.pow-requires
pow-requires c = omega (arith, power_below c.args.places (omega arith))

pub returns-else-places-gt-MOST_PLACES-clause-within : goal.returns-else-places-gt-MOST_PLACES-clause-within
returns-else-places-gt-MOST_PLACES-clause-within c =
    (omega (arith, c.pow.ensures, power_above c.args.places), omega (arith, c.pow.ensures, power_below c.args.places (omega arith)))
