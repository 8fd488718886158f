-- A new key goes last.
use Rattle.std.proofs.Common.{ap, ◌∙◌}
use Rattle.indexmap.specs.IndexSet.{insert_key}
use Rattle.ground_numbers.specs.Numbers.{named, same}
use Rattle.ground_numbers.proofs.Keys.{seen_new}
use Rattle.ground_numbers.proofs.numbers.Numbers.append.Goals as goal

pub returns-clause-ok : goal.returns-clause-ok
returns-clause-ok c =
    seen_new c.self.inside.things.keys _ _ _ _ c.self.view_is c.requires
    (c.in_ok-insert.ensures.keys ∙ ap (λ args. insert_key same c.self.inside.things.keys (named c.args.symbol args)) c.in_ok-args.ensures)
    c.len-number.ensures.value
