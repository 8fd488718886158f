use Rattle.std.proofs.Common.{◌≡◌, length}
use Rattle.planner.specs.Words as words
use Rattle.planner.specs.Words.{IsLow}
use Rattle.planner.proofs.words.with_options.Given as goal

-- what is left says the same behind what was given as all options do, and the greatest number of copies is in its range
abbrev pub invariant-options : goal.invariant-options
invariant-options l = (words.with_options l.given l.options ≡ words.with_options l.fn.given l.fn.options) × IsLow l.given

abbrev pub decreases-options : goal.decreases-options
decreases-options l = length l.options
