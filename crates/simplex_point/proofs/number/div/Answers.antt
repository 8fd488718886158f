use Rattle.rational.proofs.FieldLaws.{zero_num}
use Rattle.tableau.proofs.NamedLaws.{gives}
use Rattle.simplex_point.proofs.number.div.Goals as goal

pub returns : goal.returns
returns c = gives _ _ _ _ c.div.ensures

pub div-requires : goal.div-requires
div-requires c e = c.requires (zero_num _ e)
