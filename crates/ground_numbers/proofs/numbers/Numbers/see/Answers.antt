-- A thing that has its number is there.
use Rattle.ground_numbers.proofs.Keys.{seen_there}
use Rattle.ground_numbers.proofs.numbers.Numbers.see.Goals as goal

pub returns-in-Some-clause-ok : goal.returns-in-Some-clause-ok
returns-in-Some-clause-ok c = seen_there _ _ _ c.in-Some.ensures.found
