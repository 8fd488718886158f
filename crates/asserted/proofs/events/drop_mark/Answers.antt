use Rattle.std.proofs.Common.{◌≡◌, ◌++◌, ◌∷◌, [], List, Option, None, sym, ◌∙◌, ap, append_assoc, arith, length}
use Rattle.formula.specs.declared.atom.Lit.{Lit}
use Rattle.theory_law.proofs.Marks.{split_at_last_mark}
use Rattle.asserted.proofs.RoomLaws.{is_mark, no_mark_left}
use Rattle.asserted.proofs.events.drop_mark.Goals as goal

pub returns-then-is_none-clause-dropped : goal.returns-then-is_none-clause-dropped
returns-then-is_none-clause-dropped c = λ before behind e h.
    let mark : c.in-Some.event ≡ None = is_mark c.in-Some.event c.is_none.result c.is_none.ensures c.if-is_none.true in
    let dropped = c.events.invariant.dropped in
    let rest : List (Option Lit) = dropped.0 in
    let step : c.events.events.items ≡ c.pop.new.self.items ++ None ∷ [] = c.in-Some.ensures.items ∙ ap (λ (x : Option Lit). c.pop.new.self.items ++ x ∷ []) mark in
    let all : c.pop.new.self.items ++ None ∷ rest ≡ c.args.events.now.items =
    sym (dropped.1 ∙ ap (λ (es : List (Option Lit)). es ++ rest) step ∙ append_assoc c.pop.new.self.items (None ∷ []) rest) in
    split_at_last_mark c.pop.new.self.items rest before behind (all ∙ e) dropped.2 h

pub returns-clause-dropped : goal.returns-clause-dropped
returns-clause-dropped c = λ before behind e h.
    let dropped = c.events.invariant.dropped in
    let none : length c.events.events.items ≡ 0 = omega (arith, c.in_default.ensures.cases) in
    absurd {A = c.pop.new.self.items ≡ before} (no_mark_left c.events.events.items dropped.0 before behind none (sym dropped.1 ∙ e) dropped.2)
