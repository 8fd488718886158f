-- The set's look-up finds the first key that is the same.
use Rattle.std.proofs.Common.{◌∙◌, ap}
use Rattle.ground_numbers.specs.Numbers.{named, same, found_in}
use Rattle.ground_numbers.proofs.Keys.{position_found}
use Rattle.ground_numbers.proofs.numbers.Numbers.number.Goals as goal

pub returns-clause-found : goal.returns-clause-found
returns-clause-found c =
    c.in_ok-at.ensures.index ∙ position_found same (named c.args.symbol c.args.args.now) c.self.inside.things.keys
    ∙ ap (λ things. found_in same things (named c.args.symbol c.args.args.now)) c.self.view_is
