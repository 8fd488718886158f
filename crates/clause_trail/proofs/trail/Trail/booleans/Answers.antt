use Rattle.std.proofs.Common.{◌≡◌, ◌+◌, length, subst, rules, sym}
use Rattle.clause_trail.specs.Standing.{Stands, Trailed, IsApart}
use Rattle.clause_trail.proofs.Places.{apart}
use Rattle.clause_trail.proofs.Gets.{get-within}
use Rattle.clause_trail.proofs.trail.Trail.booleans.Goals as goal

pub returns-clause-above : goal.returns-clause-above
returns-clause-above c = λ p l s.
    let lt = get-within c.self.inside.place.items l.boolean _ (c.self.invariant.placed.found p l (subst (λ (t : Trailed). Stands t.entries p l) (sym c.self.view_is) s)) in
    search (rules, lt)

pub returns-clause-apart : goal.returns-clause-apart
returns-clause-apart c = subst (λ (t : Trailed). IsApart t.entries) c.self.view_is (apart _ _ c.self.invariant.placed)

pub returns-clause-counted : goal.returns-clause-counted
returns-clause-counted c =
    let counted = subst (λ (t : Trailed). t.free + length t.entries ≡ length c.self.inside.place.items) c.self.view_is c.self.invariant.counted in
    search (rules, counted)
