use Rattle.frac128.proofs.Stein.{odd_shifted, shifted_back}
use Rattle.frac128.proofs.gcd.odd_part.Goals as goal

pub returns-clause-odd : goal.returns-clause-odd
returns-clause-odd c = odd_shifted c.args.n c.requires c.ranges.n.fits

pub returns-clause-value : goal.returns-clause-value
returns-clause-value c = shifted_back c.args.n c.requires c.ranges.n.fits
