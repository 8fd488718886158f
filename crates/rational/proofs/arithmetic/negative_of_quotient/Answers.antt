use Rattle.rational.proofs.FieldLaws.{neg_is, itself}
use Rattle.rational.proofs.arithmetic.negative_of_quotient.Goals as goal

pub returns : goal.returns
returns c = λ x. neg_is _ _ _ (itself x)
