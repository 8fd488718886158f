-- The set's look-up goes by the keys' bytes, as the number of a name does, and its keys are distinct.
use Rattle.std.proofs.Common.{◌∙◌}
use Rattle.name_table.proofs.Numbers.{number_in-keys, AreDistinct-keys}
use Rattle.name_table.proofs.table.NameTable.find.Goals as goal

pub returns-in_err-number-clause-found : goal.returns-in_err-number-clause-found
returns-in_err-number-clause-found c =
    c.from_residual.ensures ∙ number_in-keys c.self.inside.names.keys _ c.args.name.now _ c.self.view_is c.in_err-number.ensures.index

pub returns-clause-found : goal.returns-clause-found
returns-clause-found c = number_in-keys c.self.inside.names.keys _ c.args.name.now _ c.self.view_is c.in_ok-number.ensures.index

pub returns-in_err-number-clause-distinct : goal.returns-in_err-number-clause-distinct
returns-in_err-number-clause-distinct c = AreDistinct-keys c.self.inside.names.keys _ c.self.view_is c.self.invariant.0

pub returns-clause-distinct : goal.returns-clause-distinct
returns-clause-distinct c = AreDistinct-keys c.self.inside.names.keys _ c.self.view_is c.self.invariant.0
