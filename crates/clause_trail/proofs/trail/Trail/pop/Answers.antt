use Rattle.std.proofs.Common.{subst, rules, List, ◌++◌, ◌∷◌, []}
use Rattle.clause_trail.specs.declared.trail.Entry.{Entry}
use Rattle.clause_trail.specs.Standing.{IsTabled}
use Rattle.clause_trail.proofs.Places.{tabled_pop, last_placed}
use Rattle.clause_trail.proofs.trail.Trail.pop.Goals as goal

pub index_mut-requires : goal.index_mut-requires
index_mut-requires c =
    let placed : IsTabled c.self.inside.place.items (c.pop.new.self.items ++ c.in_ok-entry.entry ∷ []) = subst (λ (l : List Entry). IsTabled c.self.inside.place.items l) c.in_ok-entry.ensures.items c.self.invariant in
    let lt = last_placed _ c.pop.new.self.items c.in_ok-entry.entry placed.placed in
    search (rules, lt)

pub invariant_of-self-2 : goal.invariant_of-self-2
invariant_of-self-2 c =
    tabled_pop _ _ c.in_ok-entry.entry (subst (λ (l : List Entry). IsTabled c.self.inside.place.items l) c.in_ok-entry.ensures.items c.self.invariant)
