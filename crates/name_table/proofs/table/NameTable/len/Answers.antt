-- The set's keys are distinct, so the names are.
use Rattle.name_table.proofs.Numbers.{AreDistinct-keys}
use Rattle.name_table.proofs.table.NameTable.len.Goals as goal

pub returns-clause-distinct : goal.returns-clause-distinct
returns-clause-distinct c = AreDistinct-keys c.self.inside.names.keys _ c.self.view_is c.self.invariant.0
