-- The set's keys are distinct.
use Rattle.ground_numbers.proofs.Keys.{AreDistinct-keys}
use Rattle.ground_numbers.proofs.numbers.Numbers.len.Goals as goal

pub returns-clause-distinct : goal.returns-clause-distinct
returns-clause-distinct c = AreDistinct-keys c.self.inside.things.keys _ c.self.view_is c.self.invariant
