use Rattle.std.proofs.Common.{◌≡◌, ◌∙◌, ap, length, List, Option, Bool, rules}
use Rattle.clause_units.proofs.Tables.{unlisted}
use Rattle.clause_units.proofs.truths.Truths.clear.Goals as goal

pub returns : goal.returns
returns c =
    let long : length c.loop-boolean.self-inside.table.items ≡ length c.args.self.now = c.loop-boolean.invariant.long ∙ ap (λ (t : List (Option Bool)). length t) c.self.view_is in
    unlisted c.loop-boolean.self-inside.table.items c.loop-boolean.self-inside.assigned.items (length c.args.self.now) long c.loop-boolean.invariant.listed (λ lt. let e = c.in_default.ensures.value 0 (search (rules, lt)) in absurd (cc))
