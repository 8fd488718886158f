use Rattle.std.proofs.Common.{◌<◌, None, sym, subst, List, Option}
use Rattle.std.specs.Prelude.{vec_capacity}
use Rattle.formula.specs.declared.atom.Lit.{Lit}
use Rattle.theory_law.specs.Seen.{marks}
use Rattle.asserted.specs.Events.{Events}
use Rattle.asserted.specs.inside.Room.{HasRoom}
use Rattle.asserted.proofs.RoomLaws.{room_mark, room_wider, fits_before}
use Rattle.asserted.proofs.events.Asserted.mark.Goals as goal

pub push-requires : goal.push-requires
push-requires c =
    let fewer : marks c.self.inside.events.items < c.self.inside.booleans = subst (λ (e : Events). marks e.events < e.booleans) (sym c.self.view_is) c.requires in
    fits_before c.self.inside.events.items None (room_mark c.self.invariant fewer)

pub invariant_of-self : goal.invariant_of-self
invariant_of-self c =
    let fewer : marks c.self.inside.events.items < c.self.inside.booleans = subst (λ (e : Events). marks e.events < e.booleans) (sym c.self.view_is) c.requires in
    subst (λ (es : List (Option Lit)). HasRoom c.self.inside.booleans (vec_capacity c.push.new.events) es) (sym c.push.ensures.items)
    (room_wider (room_mark c.self.invariant fewer) c.push.ensures.capacity)
