use Rattle.std.proofs.Common.{◌≢◌, rules}
use Rattle.ground_check.proofs.Parts.{all_numbers, taken_whole}
use Rattle.ground_check.proofs.values.reads_not.Goals as goal

pub returns : goal.returns
returns c e =
    all_numbers (λ g. g ≢ c.args.f) c.args.l.now.terms
    (taken_whole (λ t. t.0 ≢ c.args.f) c.args.l.now.terms c.loop-i.i (search (rules, c.loop-i-test.false, c.terms-i-end.ensures)) c.loop-i.invariant)
