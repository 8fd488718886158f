use Rattle.std.proofs.Common.{◌<◌, Some, sym, subst, List, Option}
use Rattle.std.specs.Prelude.{vec_capacity}
use Rattle.formula.specs.declared.atom.Lit.{Lit}
use Rattle.theory_law.specs.Seen.{IsAsserted}
use Rattle.asserted.specs.Events.{Events}
use Rattle.asserted.specs.inside.Room.{HasRoom}
use Rattle.asserted.proofs.RoomLaws.{room_put, room_wider, fits_before}
use Rattle.asserted.proofs.events.Asserted.put.Goals as goal

pub push-requires : goal.push-requires
push-requires c =
    let low : c.args.lit.boolean < c.self.inside.booleans = subst (λ (e : Events). c.args.lit.boolean < e.booleans) (sym c.self.view_is) c.requires.low in
    fits_before c.self.inside.events.items (Some c.args.lit)
    (room_put c.args.lit c.self.invariant low (λ s a. c.requires.open s (subst (λ (e : Events). IsAsserted e.events (record { boolean = c.args.lit.boolean; pos = s })) c.self.view_is a)))

pub invariant_of-self : goal.invariant_of-self
invariant_of-self c =
    let low : c.args.lit.boolean < c.self.inside.booleans = subst (λ (e : Events). c.args.lit.boolean < e.booleans) (sym c.self.view_is) c.requires.low in
    subst (λ (es : List (Option Lit)). HasRoom c.self.inside.booleans (vec_capacity c.push.new.events) es) (sym c.push.ensures.items)
    (room_wider
    (room_put c.args.lit c.self.invariant low (λ s a. c.requires.open s (subst (λ (e : Events). IsAsserted e.events (record { boolean = c.args.lit.boolean; pos = s })) c.self.view_is a)))
    c.push.ensures.capacity)
