use Rattle.std.proofs.Common.{List, sym, subst, ◌∙◌}
use Rattle.std.proofs.lemmas.Bool.{and_parts}
use Rattle.rational.specs.Fraction.{Fraction}
use Rattle.plan_repeat.specs.inside.Repeating.{NoneGrows, still}
use Rattle.plan_repeat.proofs.deciding.growths_rolling.Goals as goal

pub returns-then-not-some_grows : goal.returns-then-not-some_grows
returns-then-not-some_grows c =
    still c.in-Some.growths.items (and_parts _ _ (sym c.leaves_roll.ensures ∙ c.if-not-leaves_roll.false)).0 (rw c.in-Some.is at c.in_ok-growths.ensures)
    (subst NoneGrows c.as_slice.ensures.value (c.some_grows.ensures.none c.if-not-some_grows.true))
