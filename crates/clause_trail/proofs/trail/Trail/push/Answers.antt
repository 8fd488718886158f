use Rattle.std.proofs.Common.{◌≡◌, ℕ, subst, ap, ◌∙◌, sym, Some, rules, List, ◌<◌, ◌++◌, ◌∷◌, [], set, length, length-set}
use Rattle.clause_trail.specs.declared.trail.Entry.{Entry}
use Rattle.clause_trail.specs.Standing.{Stands, Trailed, IsTabled}
use Rattle.clause_trail.proofs.Places.{tabled_push, free_push, room}
use Rattle.clause_trail.proofs.trail.Trail.push.Goals as goal

pub invariant_of-self-2 : goal.invariant_of-self-2
invariant_of-self-2 c =
    let lt : c.args.entry.lit.boolean < length c.self.inside.place.items = subst (λ (t : Trailed). c.args.entry.lit.boolean < t.booleans) (sym c.self.view_is) c.requires.booleans in
    let placed = tabled_push c.self.inside.place.items c.self.inside.entries.items c.self.invariant c.args.entry lt (λ p l s e. c.requires.open p l (subst (λ (t : Trailed). Stands t.entries p l) c.self.view_is s) e) in
    let len : length c.self.inside.entries.items ≡ c.len-place.result = search rules in
    subst (λ (l : List Entry). IsTabled (set c.self.inside.place.items c.args.entry.lit.boolean (Some c.len-place.result)) l) (sym c.in_ok-push.ensures.items)
    (subst (λ (n : ℕ). IsTabled (set c.self.inside.place.items c.args.entry.lit.boolean (Some n)) (c.self.inside.entries.items ++ c.args.entry ∷ [])) len placed)

pub returns-clause-free : goal.returns-clause-free
returns-clause-free c =
    let lt : c.args.entry.lit.boolean < length c.self.inside.place.items = subst (λ (t : Trailed). c.args.entry.lit.boolean < t.booleans) (sym c.self.view_is) c.requires.booleans in
    let counted = free_push c.self.inside.place.items c.self.inside.entries.items c.self.invariant.placed c.args.entry.lit.boolean c.len-place.result lt (λ p l s e. c.requires.open p l (subst (λ (t : Trailed). Stands t.entries p l) c.self.view_is s) e) in
    counted ∙ ap (λ (t : Trailed). t.free) c.self.view_is

pub returns-clause-room : goal.returns-clause-room
returns-clause-room c =
    let lt : c.args.entry.lit.boolean < length c.self.inside.place.items = subst (λ (t : Trailed). c.args.entry.lit.boolean < t.booleans) (sym c.self.view_is) c.requires.booleans in
    let tabled = tabled_push c.self.inside.place.items c.self.inside.entries.items c.self.invariant c.args.entry lt (λ p l s e. c.requires.open p l (subst (λ (t : Trailed). Stands t.entries p l) c.self.view_is s) e) in
    room _ _ tabled (ap length c.in_ok-push.ensures.items) (length-set c.self.inside.place.items c.args.entry.lit.boolean (Some (length c.self.inside.entries.items)) ∙ sym (length-set c.self.inside.place.items c.args.entry.lit.boolean (Some c.len-place.result)))
