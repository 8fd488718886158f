use Rattle.std.proofs.Common.{◌≡◌, ◌+◌, rules, sym, subst, List, Option}
use Rattle.std.specs.Prelude.{vec_capacity}
use Rattle.formula.specs.declared.atom.Lit.{Lit}
use Rattle.asserted.specs.inside.Room.{HasRoom}
use Rattle.asserted.proofs.RoomLaws.{room_boolean}
use Rattle.asserted.proofs.events.Asserted.add_boolean.Goals as goal

pub invariant_of-self-2 : goal.invariant_of-self-2
invariant_of-self-2 c =
    let more : c.in-Some.booleans ≡ c.self.inside.booleans + 1 = search rules in
    subst (λ (es : List (Option Lit)). HasRoom c.in-Some.booleans (vec_capacity c.reserve.new.events) es) (sym c.in_ok-reserve.ensures.items)
    (room_boolean c.self.invariant more c.in_ok-reserve.ensures.ok)
