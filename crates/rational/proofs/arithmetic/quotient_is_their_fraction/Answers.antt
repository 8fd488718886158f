use Rattle.rational.proofs.FieldLaws.{quotient_is}
use Rattle.rational.proofs.arithmetic.quotient_is_their_fraction.Goals as goal

pub returns : goal.returns
returns c = quotient_is
