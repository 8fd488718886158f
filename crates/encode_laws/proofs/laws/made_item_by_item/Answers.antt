use Rattle.encode_laws.proofs.MadeFormula.{named-are, contents-are}
use Rattle.encode_laws.proofs.laws.made_item_by_item.Goals as goal

pub returns : goal.returns
returns c = record { formula = contents-are; operations = named-are }
