use Rattle.std.proofs.Common.{subst, List, Option}
use Rattle.std.specs.Prelude.{vec_capacity}
use Rattle.formula.specs.declared.atom.Lit.{Lit}
use Rattle.asserted.specs.inside.Room.{HasRoom}
use Rattle.asserted.proofs.RoomLaws.{room_front, room_wider}
use Rattle.asserted.proofs.events.Asserted.back.Goals as goal

pub invariant_of-self : goal.invariant_of-self
invariant_of-self c =
    let front = c.drop_mark.ensures.front in
    room_wider (room_front c.drop_mark.new.events.items front.0 (subst (λ (es : List (Option Lit)). HasRoom c.self.inside.booleans (vec_capacity c.self.inside.events) es) front.1 c.self.invariant)) c.drop_mark.ensures.capacity
