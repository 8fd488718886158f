-- The negative of an expression, which always fits.
use lib.IntN.{negsuc}
use Rattle.rational.specs.Fraction.{whole}
use Rattle.lin.specs.Linear.{Linear, scale}

-- -l: the multiple by -1
abbrev pub negative : Linear → Linear
negative l = scale (whole (negsuc 0)) l
