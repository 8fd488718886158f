use Rattle.std.proofs.Common.{◌≡◌, ◌<◌, Some, length, sym, ap, subst, ◌∙◌, slice_get, set}
use Rattle.formula.specs.declared.atom.Lit.{Lit}
use Rattle.clause_trail.specs.declared.trail.Entry.{Entry}
use Rattle.clause_trail.specs.Standing.{Stands, Trailed}
use Rattle.clause_trail.proofs.Gets.{get-from}
use Rattle.clause_trail.proofs.Lits.{same_stand}
use Rattle.clause_trail.proofs.Rested.{tabled_rested}
use Rattle.clause_trail.proofs.trail.Trail.set_reason.Goals as goal

pub invariant_of-self : goal.invariant_of-self
invariant_of-self c =
    let e : Entry = c.index.result.now in
    let lt : c.args.place < length c.self.inside.entries.items = subst (λ (t : Trailed). c.args.place < length t.entries) (sym c.self.view_is) c.requires in
    let at : slice_get c.self.inside.entries.items c.args.place ≡ Some e = get-from c.self.inside.entries.items c.args.place e e lt (sym c.index.ensures) in
    tabled_rested c.self.inside.place.items c.self.inside.entries.items c.args.place e.lit c.args.reason (e.reason, at) c.self.invariant

pub returns-clause-entries : goal.returns-clause-entries
returns-clause-entries c = λ l s.
    let e : Entry = c.index.result.now in
    let lt : c.args.place < length c.self.inside.entries.items = subst (λ (t : Trailed). c.args.place < length t.entries) (sym c.self.view_is) c.requires in
    let at : slice_get c.self.inside.entries.items c.args.place ≡ Some e = get-from c.self.inside.entries.items c.args.place e e lt (sym c.index.ensures) in
    let here : Stands c.self.inside.entries.items c.args.place l = subst (λ (t : Trailed). Stands t.entries c.args.place l) (sym c.self.view_is) s in
    let same : e.lit ≡ l = same_stand c.self.inside.entries.items c.args.place e.lit l (e.reason, at) here in
    ap (λ (x : Lit). set c.self.inside.entries.items c.args.place (record { lit = x; reason = Some c.args.reason })) same
    ∙ ap (λ (t : Trailed). set t.entries c.args.place (record { lit = l; reason = Some c.args.reason })) c.self.view_is
